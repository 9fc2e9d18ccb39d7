-- What the passes of workers found where a line found no slot.
use Rattle.std.proofs.Common.{◌≡◌, ℕ, true, List, [], ◌∷◌, ◌++◌, length, length-append, map, refl, sym, ap, ◌∙◌, subst, append_assoc, arith, inl, inr}
use Rattle.std.{specs.{Prelude.{⊤}, List.{AllByRecursion}}, proofs.lemmas.List.{append-nil, Elements.{filter-append}}}
use Rattle.fm_base.specs.{declared.caller.Caller.{Caller}, Calls.{Entry}, Finds.{Find, Gathered, is_slot}, Histories.{made_by}}
use Rattle.fm_rule_facts.specs.{Hands.{Hand, nothing, taken, learnt, retired, slots_in}, Splits.{as_gathered}, Views.{View, Begins, In, NoneLeft}}
use Rattle.fm_script_text.specs.declared.line.Line.{Line}
use Rattle.fm_words.specs.declared.shape.Shape.{Shape}
use Rattle.fm_script_lines.specs.{declared.{numbers.Numbers.{Numbers}, reply.Reply.{Reply}, standing.Standing.{Standing}}, Playing.{LinesRan}}
use Rattle.fm_script_lines.specs.{Report.{Player, runs}, Pages.{EachBehind, FindsFew, LendsRightly}, Slots.{AreFound}}
use Rattle.fm_script_lines.proofs.Lending.{behind_as, few_later, lends_later}
use Rattle.fm_script_laws.specs.Slots.{FindsTold}
use Rattle.fm_workers_crew.specs.Crew.{IsFresh, IsIn, callers}

-- ---- a pass's slots

-- A hand without a slot is empty.
pub none_held : (hand : Hand) → slots_in hand ≡ [] → hand ≡ nothing
none_held nothing e = refl
none_held (taken slot) e = absurd (cc)
none_held (learnt slot generation) e = absurd (cc)
none_held (retired slot) e = absurd (cc)

-- ---- one worker

-- these are a worker's lines, by the pass that is like this behind them
pub record HasFound (v : View) (w : Player) : Type 0 where
  pub caller : w.caller ≡ v.caller
  pub earlier : List Entry
  pub made : made_by v.caller v.seen ≡ earlier ++ runs w.dones
  pub found : AreFound v.caller v.finds v.seen earlier w.dones
  pub few : EachBehind (FindsFew v.shape v.caller v.seen) earlier w.dones
  pub loans : EachBehind (LendsRightly v.shape v.caller v.seen) earlier w.dones

abbrev pub HaveFound : List View → List Player → Type 0
HaveFound [] [] = ⊤
HaveFound (v ∷ vs) (w ∷ ws) = HasFound v w × HaveFound vs ws
HaveFound vs ws = ⊥

pub has_found : (p v : View) {names : Numbers} {base : List Standing} {start : ℕ} {own next : List Standing} {lines : List Line} {replies : List Reply}
    (r : LinesRan p v names base start own next lines replies) → HasFound v (record { caller = v.caller; dones = r.dones })
has_found p v r =
    let w = r.went in
    let same : ◌≡◌ {A = Shape × Caller} (p.shape, p.caller) (v.shape, v.caller) = (λ i. (sym w.same_shape i, sym w.same_caller i)) in
    record {
      caller = refl;
      earlier = made_by v.caller p.seen;
      made = ap (λ (es : List Entry). made_by v.caller es) w.seen ∙ (filter-append _ p.seen w.more
          ∙ ap (λ (es : List Entry). made_by v.caller p.seen ++ es) (ap (λ (c : Caller). made_by c w.more) w.same_caller ∙ w.by_pass));
      found = subst (λ (c : Caller). AreFound c v.finds v.seen (made_by c p.seen) r.dones) (sym w.same_caller) r.found;
      few = subst (λ (x : Shape × Caller). EachBehind (FindsFew x.0 x.1 v.seen) (made_by x.1 p.seen) r.dones) same r.few;
      loans = subst (λ (x : Shape × Caller). EachBehind (LendsRightly x.0 x.1 v.seen) (made_by x.1 p.seen) r.dones) same r.loans;
    }

nothing_before : (xs ys : List Entry) → xs ++ ys ≡ ys → xs ≡ []
nothing_before [] ys e = refl
nothing_before (x ∷ xs) ys e =
    let same : length ((x ∷ xs) ++ ys) ≡ length ys = ap (λ (es : List Entry). length es) e in
    let long = length-append (x ∷ xs) ys in
    absurd (omega (arith, same, long))

-- ---- all of them, once they are gathered

module _ (old new : View) (more : List Entry) (seen : new.seen ≡ old.seen ++ more) where
  -- Its lines are all that a pass made that had made no entry before.
  nothing_earlier : (v : View) (w : Player) (h : HasFound v w) → IsFresh old v.caller → IsIn v new → made_by w.caller more ≡ runs w.dones
      → h.earlier ≡ []
  nothing_earlier v w h fresh within entries =
      let c = v.caller in
      let its : made_by c new.seen ≡ made_by c v.seen =
      ap (λ (es : List Entry). made_by c es) within.seen ∙ (filter-append _ v.seen within.rest
      ∙ (ap (λ (es : List Entry). made_by c v.seen ++ es) within.quiet ∙ append-nil (made_by c v.seen))) in
      let now : made_by c new.seen ≡ made_by c more =
      ap (λ (es : List Entry). made_by c es) seen ∙ (filter-append _ old.seen more ∙ ap (λ (es : List Entry). es ++ made_by c more) fresh.silent) in
      nothing_before h.earlier (runs w.dones)
      (sym h.made ∙ (sym its ∙ (now ∙ (ap (λ (x : Caller). made_by x more) (sym h.caller) ∙ entries))))

module _ (old new : View) (more : List Entry) (seen : new.seen ≡ old.seen ++ more)
    (left : (g : Gathered) (f : Find) → In g new.gathered → In f g.finds → is_slot f.step ≡ true → f.found ≡ 0
    → NoneLeft new.shape new.seen g.caller f) where
  told : (v : View) (w : Player) → HasFound v w → IsFresh old v.caller → IsIn v new → made_by w.caller more ≡ runs w.dones
      → In (as_gathered v) new.gathered → FindsTold new.shape new.seen w
  told v w h fresh within entries among = record {
    finds = v.finds;
    seen = v.seen;
    begins = (within.rest, within.seen);
    found = subst (λ (c : Caller). AreFound c v.finds v.seen [] w.dones) (sym h.caller)
        (subst (λ (es : List Entry). AreFound v.caller v.finds v.seen es w.dones) (nothing_earlier old new more seen v w h fresh within entries) h.found);
    none_left = λ f i step none. subst (λ (c : Caller). NoneLeft new.shape new.seen c f) (sym h.caller) (left (as_gathered v) f among i step none);
  }

  -- What each found is told by the gatherer, which knows of each slot why it was not free.
  pub all_told : (vs : List View) (ws : List Player) → HaveFound vs ws → AllByRecursion (IsFresh old) (callers (map as_gathered vs))
      → AllByRecursion (λ v. IsIn v new) vs → AllByRecursion (λ w. made_by w.caller more ≡ runs w.dones) ws
      → ((g : Gathered) → In g (map as_gathered vs) → In g new.gathered) → AllByRecursion (FindsTold new.shape new.seen) ws
  all_told [] [] h fresh within entries among = tt
  all_told [] (w ∷ ws) h fresh within entries among = absurd h
  all_told (v ∷ vs) [] h fresh within entries among = absurd h
  all_told (v ∷ vs) (w ∷ ws) h fresh within entries among = (
    told v w h.0 fresh.0 within.0 entries.0 (among (as_gathered v) (inl refl)),
    all_told vs ws h.1 fresh.1 within.1 entries.1 (λ g i. among g (inr i)),
  )

-- ---- what each learnt of pages, in a history that goes on

-- Few pages were left at points of its lines' calls, and it lent them for its ranges.
pub record PagesFound (z : Shape) (all : List Entry) (w : Player) : Type 0 where
  pub few : EachBehind (FindsFew z w.caller all) [] w.dones
  pub loans : EachBehind (LendsRightly z w.caller all) [] w.dones

module _ (old new : View) (more all : List Entry) (seen : new.seen ≡ old.seen ++ more) (on : Begins new.seen all) where
  pages_found : (v : View) (w : Player) → HasFound v w → IsFresh old v.caller → IsIn v new → made_by w.caller more ≡ runs w.dones
      → PagesFound new.shape all w
  pages_found v w h fresh within entries =
      let same : ◌≡◌ {A = Shape × (Caller × List Entry)} (v.shape, (v.caller, h.earlier)) (new.shape, (w.caller, [])) =
      (λ i. (within.shape i, (sym h.caller i, nothing_earlier old new more seen v w h fresh within entries i))) in
      let later : Begins v.seen all =
      (within.rest ++ on.0, on.1 ∙ (ap (λ (es : List Entry). es ++ on.0) within.seen ∙ append_assoc v.seen within.rest on.0)) in
      record {
        few = subst (λ (x : Shape × (Caller × List Entry)). EachBehind (FindsFew x.0 x.1.0 all) x.1.1 w.dones) same
            (behind_as (FindsFew v.shape v.caller v.seen) (FindsFew v.shape v.caller all) (few_later v.shape v.caller v.seen all later)
            h.earlier w.dones h.few);
        loans = subst (λ (x : Shape × (Caller × List Entry)). EachBehind (LendsRightly x.0 x.1.0 all) x.1.1 w.dones) same
            (behind_as (LendsRightly v.shape v.caller v.seen) (LendsRightly v.shape v.caller all) (lends_later v.shape v.caller v.seen all later)
            h.earlier w.dones h.loans);
      }

  -- So it is with all of them, once they are gathered.
  pub all_pages_found : (vs : List View) (ws : List Player) → HaveFound vs ws → AllByRecursion (IsFresh old) (callers (map as_gathered vs))
      → AllByRecursion (λ v. IsIn v new) vs → AllByRecursion (λ w. made_by w.caller more ≡ runs w.dones) ws
      → AllByRecursion (PagesFound new.shape all) ws
  all_pages_found [] [] h fresh within entries = tt
  all_pages_found [] (w ∷ ws) h fresh within entries = absurd h
  all_pages_found (v ∷ vs) [] h fresh within entries = absurd h
  all_pages_found (v ∷ vs) (w ∷ ws) h fresh within entries =
      (pages_found v w h.0 fresh.0 within.0 entries.0, all_pages_found vs ws h.1 fresh.1 within.1 entries.1)

-- The callers of passes that were gathered.
pub callers_gathered : (vs : List View) → map (λ v. v.caller) vs ≡ callers (map as_gathered vs)
callers_gathered [] = refl
callers_gathered (v ∷ vs) = λ i. v.caller ∷ callers_gathered vs i
