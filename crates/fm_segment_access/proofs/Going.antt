-- A run of visits to an arena, as far as it has come.
use Rattle.std.proofs.{Common.{◌≡◌, ◌⊎◌, inl, inr, List, [], ◌++◌, refl, subst, sym, Err}, lemmas.List.{append-nil}}
use Rattle.fm_base.specs.declared.{caller.Caller.{Caller}, arena_id.ArenaId.{ArenaId}, refusal.Refusal.{Refusal, TheVariants.{Closed, WrongThread}}}
use Rattle.fm_base.specs.{Arenas.{MayUse}, Calls.{Entry}, View.{View, Makes, Did}, Visits.{refused_visit, Run, ends, goes_on}, Does.{DoesEnter}}
use Rattle.fm_base.proofs.{Making.{Makes-then, Makes-none}, Running.{Led, led_start, led_more, led_ends}}
use Rattle.fm_segment_access.specs.Ranges.{DoesRefuse}

-- no visit was made
pub record IsFirst {X : Type 0} (first x : X) (own : List Entry) : Type 0 where
  pub none : own ≡ []
  pub same : x ≡ first

module _ {X Y : Type 0} (Step : X → List Entry → X → Type 0) (Ends : X → List Entry → Y → Type 0) where
  -- `own` led from `first` to `x`, while the memory went from old to now
  pub record Going (old now : View) (id : ArenaId) (first x : X) (own : List Entry) : Type 0 where
    pub makes : Makes old now own
    pub led : Led Step Ends first x own
    pub begun : IsFirst first x own ⊎ MayUse id old.caller

  -- No visit yet.
  pub going_start : (old : View) (id : ArenaId) (first : X) → Going old old id first first []
  going_start old id first = record { makes = Makes-none old; led = led_start Step Ends first; begun = inl (record { none = refl; same = refl }) }

module _ {X Y : Type 0} {Step : X → List Entry → X → Type 0} {Ends : X → List Entry → Y → Type 0} {old now : View} {id : ArenaId} {first x : X}
    {own : List Entry} (g : Going Step Ends old now id first x own) where
  -- One visit more.
  pub going_more : {next : View} (y : X) {more : List Entry} → MayUse id now.caller → Makes now next more → Step x more y
      → Going Step Ends old next id first y (own ++ more)
  going_more {next} y {more} may m s = record {
    makes = Makes-then old now next own more g.makes m;
    led = led_more Step Ends first x y own more g.led s;
    begun = inr (subst (λ (c : Caller). MayUse id c) g.makes.same_caller may);
  }

  -- The end of a run that had a visit.
  pub going_done : (answer : Y) → ¬ (x ≡ first) → Ends x [] answer → Did old now (λ es. MayUse id old.caller × Run Step Ends first es answer)
  going_done answer some e =
      let may : MayUse id old.caller = elim g.begun [ inl none ↦ absurd (some none.same) | inr may ↦ may ] in
      let run = led_ends Step Ends first x own [] answer g.led e in
      record { own = own; does = (may, subst (λ (es : List Entry). Run Step Ends first es answer) (append-nil own) run); makes = g.makes }

  -- A visit that was refused ends the run.
  pub going_refused : {next : View} (answer : Y) (r : Refusal) → Ends x (refused_visit old.caller id) answer → Did now next (DoesEnter now.caller id (Err r))
      → Did old next (DoesRefuse old.caller id (λ es. Run Step Ends first es answer) r)
  going_refused {next} answer Closed e d =
      let same = g.makes.same_caller in
      let last : d.own ≡ refused_visit old.caller id = rw (← same) d.does.1 in
      record {
        own = own ++ d.own;
        does = (subst (λ (c : Caller). MayUse id c) same d.does.0, led_ends Step Ends first x own d.own answer g.led (rw last e));
        makes = Makes-then old now next own d.own g.makes d.makes;
      }
  going_refused {next} answer WrongThread e d =
      let never : ¬ (MayUse id old.caller) = λ may. d.does.0 (subst (λ (c : Caller). MayUse id c) (sym g.makes.same_caller) may) in
      elim g.begun [
        | inl none ↦ record { own = own ++ d.own; does = (never, rw (none.none, d.does.1) refl); makes = Makes-then old now next own d.own g.makes d.makes }
        | inr may ↦ absurd (never may)
      ]
  going_refused answer r e d = absurd d.does

-- where a run ended, and that it was good to be there
pub record EndsAt {X : Type 0} (Good : X → Type 0) (Ends : X → List Entry → Type 0) : Type 0 where
  pub last : X
  pub own : List Entry
  pub good : Good last
  pub ends : Ends last own

-- A run whose steps go on from what is good to what is ends there.
pub run_ends : {X Y : Type 0} {Step : X → List Entry → X → Type 0} {Ends : X → List Entry → Y → Type 0} (Good : X → Type 0)
    → ((x y : X) (own : List Entry) → Good x → Step x own y → Good y) → {x : X} {own : List Entry} {answer : Y} → Good x → Run Step Ends x own answer
    → EndsAt Good (λ x es. Ends x es answer)
run_ends Good steps {x} {own} g (ends e) = record { last = x; own = own; good = g; ends = e }
run_ends Good steps {x} g (goes_on y first rest step run) = run_ends Good steps (steps x y first g step) run
