-- A run of visits so far, proved once for every kind of step.
use Rattle.std.proofs.Common.{◌≡◌, List, [], ◌∷◌, ◌++◌, append_assoc, ap, ◌∙◌, Option, Some, None}
use Rattle.fm_base.specs.{declared.{caller.Caller.{Caller}, arena_id.ArenaId.{ArenaId}}, Calls.{Leave, Fine, Entry, entry_of}}
use Rattle.fm_base.{specs.{Visits.{Acts, entries_of, visit, Run, ends, goes_on}, View.{inside_after}}, proofs.Making.{inside_after-append}}

module _ {X Y : Type 0} (Step : X → List Entry → X → Type 0) (Ends : X → List Entry → Y → Type 0) where
  -- `own` led from `first` to `now`: whatever completes the run from here completes it from there
  pub record Led (first now : X) (own : List Entry) : Type 0 where
    pub onward : (rest : List Entry) (answer : Y) → Run Step Ends now rest answer → Run Step Ends first (own ++ rest) answer

  -- no step
  pub led_start : (x : X) → Led x x []
  led_start x = record { onward = λ rest answer r. r }

  -- one step more
  pub led_more : (first x y : X) (own more : List Entry) → Led first x own → Step x more y → Led first y (own ++ more)
  led_more first x y own more l s =
      record { onward = λ rest answer r. rw (append_assoc own more rest) (l.onward (more ++ rest) answer (goes_on y more rest s r)) }

  -- the end of the run
  pub led_ends : (first x : X) (own last : List Entry) (answer : Y) → Led first x own → Ends x last answer → Run Step Ends first (own ++ last) answer
  led_ends first x own last answer l e = l.onward last answer (ends e)

-- ---- where visits and runs of visits leave the caller

-- A visit ends outside.
pub visit_ends_outside : (i : Option ArenaId) (c : Caller) (id : ArenaId) (acts : Acts) → inside_after i (visit c id acts) ≡ None
visit_ends_outside i c id acts = inside_after-append (Some id) (entries_of c acts) (entry_of c (Leave id) Fine ∷ [])

-- A run whose parts end outside ends outside.
pub run_outside : {X Y : Type 0} (Step : X → List Entry → X → Type 0) (Ends : X → List Entry → Y → Type 0)
    → ((x : X) (own : List Entry) (y : X) → Step x own y → inside_after None own ≡ None)
    → ((x : X) (own : List Entry) (answer : Y) → Ends x own answer → inside_after None own ≡ None)
    → (x : X) (own : List Entry) (answer : Y) → Run Step Ends x own answer → inside_after None own ≡ None
run_outside Step Ends steps last x own answer (ends e) = last x own answer e
run_outside Step Ends steps last x own answer (goes_on y first rest step run) =
    inside_after-append None first rest ∙ ap (λ i. inside_after i rest) (steps x first y step) ∙ run_outside Step Ends steps last y rest answer run
