-- The step that draws a caller, or sees how many were drawn.
use Rattle.std.proofs.Common.{◌≡◌, ◌≢◌, ◌⊎◌, ℕ, ◌+◌, ◌==◌, ◌&&◌, Bool, true, false, if◌then◌else◌, List, [], ◌++◌, length, set, get_or, sym, refl, ap, ◌∙◌, subst, arith, inl, inr, ⊎_elim, Option, Some, None}
use Rattle.std.proofs.lemmas.List.{append-nil}
use mathlib.Core.Option.{some}
use lib.ListN.{get_elem?}
use prog.Atomic.{either}
use Rattle.fm_words.specs.{declared.shape.Shape.{Shape}, Places.{at as place_at, draw as draw_place}}
use Rattle.fm_base.specs.{declared.caller.Caller.{Caller}, Calls.{Entry}, Histories.{made_by}, Finds.{Find, Gathered, Draws as Drawing, is_number}}
use mathlib.Core.Option.{some-injective}
use mathlib.Core.Logic.{dite}
use native.Mathlib.Decide.{ℕ_discrete}
use Rattle.atomic_table.proofs.Lists.{set_else}
use Rattle.fm_rule_facts.{proofs.Looking.{looked_told, none_looked}, specs.declared.step.Step.TheVariants.{Draws}}
use Rattle.fm_rule_facts.specs.Hands.{Number, no_number, number_learnt, number_drawn, number_left, HasNumberIn, drawn_by, number_after, most_draws}
use Rattle.fm_rule_facts.specs.{Views.{View, In, all_gathered, caller_of}, Holds.{holds_of}}
use Rattle.fm_rule_facts.specs.Steps.{part, entries, noted, draws, note_draw, is_clear, draw_next, CanDraw, can_draw, can_look}
use Rattle.fm_rule_facts.specs.Facts.{HasGathered, HasDraw, HasClose, HasSweep, KeepsSlot, DrewIn, Owns, Knows, Rule, HasPage, WasDrawn, IsUndrawn, HasNumberInHand, KeepsCaller, KeepsNumber, WantsNumber, IsUsed, wanted, full, IsLooked, Somewhere}
use Rattle.fm_rule_facts.{specs.{Moves.{told, Gives, LearnsCount, MayStep}, Gone.{IsFounded}}, proofs.{Ruling.{page_like}, Sounding.{sound_of}}}
use Rattle.fm_rule_facts.proofs.Gone.{NoSlots, draw_no_slots, none_founded, founded_told}
use Rattle.fm_rule_facts.proofs.{Founds.{AreWithin, looked_within, drew_within, counted_told, counted_set, find_within}, Drawers.{complete_counted}}
use Rattle.fm_rule_facts.proofs.{Keeping.{none_added, silent_since, set_there, in_left, stays_somewhere}, Summing.{total-set}, Callers.{counted, all_counted}}
use lib.Seq.{set-get_or}
use Rattle.fm_rule_steps.proofs.{Reading.{eqb_true, eqb_false}, Knowing.{own}, Plain.{Made}, Counting.{drew, drew_history, now, who', rank'}, Drawn.{knows}}
use Rattle.fm_rule_steps.proofs.Splitting.{with_owners, views_set}

both : (a b : Bool) → (a && b) ≡ true → b ≡ true
both true b e = e
both false b e = absurd (cc)

module _ (z : Shape) (me : ℕ) (v : View) (l : v.live ≡ true) (lone : v.met ≡ []) (ws : List ℕ) (vs : List View) (r : Rule z ws vs)
    (at : get_elem? vs me ≡ some v) where
  abbrev i : ℕ
  i = place_at z draw_place

  abbrev mine : Owns z r.history r.memory r.machine r.owners me v
  mine = own z ws vs r me v at l

  abbrev zs : List Entry
  zs = (r.each me v at).begins.0

  abbrev is : r.history ≡ v.seen ++ zs
  is = (r.each me v at).begins.1

  -- no number was looked for
  abbrev AreIdle : (ℕ → List Find) → Type 0
  AreIdle fs = (k : ℕ) (f : Find) → In f (fs k) → is_number f.step ≡ false

  abbrev part_of : Number → Bool → View
  part_of x wh = record v { number = x; whole = wh }

  -- ---- nobody was drawn

  abbrev looker : Number → Bool → (ℕ → List Find) → View
  looker x wh fs = told (part_of x wh) zs [] fs

  looked : (x : Number) (wh : Bool) (fs : ℕ → List Find) → HasNumberInHand z r.history r.memory r.machine r.owners me v x
      → ((n : ℕ) → HasNumberIn n v.number → HasNumberIn n x) → ((n : ℕ) → HasNumberIn n x → HasNumberIn n v.number)
      → ((c : Caller) → v.number ≡ number_drawn c → x ≡ number_drawn c)
      → ((n : ℕ) → WantsNumber n v → WantsNumber n (part_of x wh) ⊎ (r.memory.draw ≡ most_draws))
      → AreWithin r.memory.draw r.owners.who r.owners.rank fs → NoSlots fs → AreIdle fs
      → (wh ≡ true → (c : Caller) → WasDrawn r.memory.draw r.owners.who r.owners.rank c → c ≢ v.caller → HasGathered c v)
      → Rule z (set ws i (get_or ws i 0)) (set vs me (looker x wh fs))
  looked x wh fs hand keeps kept stays wants founds slots idle whole =
      let w : View = looker x wh fs in
      let caller_on : (c : Caller) → KeepsCaller c v → KeepsCaller c w = (λ c. ⊎_elim (λ h. inl h) (⊎_elim (λ h. inr (inl (stays c h))) (λ (h : HasGathered c v).
      inr (inr (h.0, in_left h.0 (all_gathered v) [] h.1, h.2))))) in
      let number_on : (n : ℕ) → KeepsNumber n v → KeepsNumber n w = (λ n h. (h.0, ⊎_elim inl (λ (q : HasNumberIn n v.number). inr (keeps n q)) h.1)) in
      let draw_on : (k c : Caller) → HasDraw k c v → HasDraw k c w = (λ k c. ⊎_elim
      (λ (h : (v.live ≡ true) × (v.caller ≡ k) × DrewIn c v.finds).
      let y = h.2 in inl (h.0, h.1, (y.0, in_left y.0 v.finds (fs (length (v.seen ++ zs))) y.1, y.2)))
      (λ (h : (g : Gathered) × In g (all_gathered v) × (g.caller ≡ k) × DrewIn c g.finds).
      inr (h.0, in_left h.0 (all_gathered v) [] h.1, h.2, h.3))) in
      with_owners z ws (set ws i (get_or ws i 0)) vs (set vs me w) r (set-get_or ws i 0) r.owners.seat r.owners.number
      (λ c b. stays_somewhere vs me v w (r.owners.seat c) (KeepsCaller c) at (caller_on c) (r.callers c b))
      (λ k a b.
      let y = r.drawers k a b in
      let p : Caller = r.owners.who y.0 in
      let q : Caller = r.owners.who k in
      (y.0, y.1, stays_somewhere vs me v w (r.owners.seat p) (HasDraw p q) at (draw_on p q) y.2))
      (λ n low b. ⊎_elim
      (λ (y : Somewhere vs (r.owners.number n) (KeepsNumber n)). inl (stays_somewhere vs me v w (r.owners.number n) (KeepsNumber n) at (number_on n) y))
      inr (r.numbers n low b))
      (λ a h. stays_somewhere vs me v w (r.owners.closer a) (HasClose a) at (λ q. q) (r.closed a h))
      (λ a f o. stays_somewhere vs me v w (r.owners.closer a) (HasSweep a) at (λ q. q) (r.swept a f o))
      (λ s g h f left b. stays_somewhere vs me v w (r.owners.holder s) (KeepsSlot s) at (λ q. q) (r.slots s g h f left b))
      (λ q j b. stays_somewhere vs me v w j (HasPage q (r.owners.berth q)) at (page_like q (r.owners.berth q) v w refl refl refl) (r.berths q j b))
      (views_set vs me w (Knows z r.history r.memory r.machine r.owners)
      (knows z me v l lone ws vs r at r.memory.draw r.owners.who r.owners.rank r.owners.seat (λ c q. q) (λ c q. refl) x wh fs hand
      (λ n q. mine.not_own n (kept n q)) whole)
      (λ j y ne e. r.each j y e))
      (counted_set r.memory.draw r.owners.who r.owners.rank r.memory.draw r.owners.who r.owners.rank (omega arith) (λ c q. q) vs me w
      (counted_told r.memory.draw r.owners.who r.owners.rank v (part_of x wh) zs [] fs refl refl founds (r.counted me v at)) r.counted)
      (views_set vs me w (λ j u. IsFounded z r.history r.memory r.owners.taker r.machine.life u)
      (founded_told z r.history r.memory r.owners.taker r.machine.life v (part_of x wh) zs [] fs refl refl refl
      (none_founded z r.history r.memory r.owners.taker r.machine.life v.caller fs slots (length (v.seen ++ zs))) (r.founds me v at))
      (λ j y ne e. r.founds j y e))
      (views_set vs me w (λ j u. IsLooked z r.memory r.owners vs u)
      (looked_told z r.memory r.owners vs v (part_of x wh) zs [] fs refl refl refl
      (λ f i. (
        (λ q. absurd (let u : true ≡ false = sym q ∙ idle (length (v.seen ++ zs)) f i in cc)),
        none_looked z r.memory r.owners vs v.gathered f (idle (length (v.seen ++ zs)) f i),
      )) (r.looked me v at))
      (λ j y ne e. r.looked j y e))
      wants_on
      (λ a.
      let x = total-set (holds_of a) vs me v w at in
      let s : holds_of a w ≡ holds_of a v = refl in
      omega arith)
    where
      wants_on : (before : List Gathered) → ((g : Gathered) → In g before → WasDrawn r.memory.draw r.owners.who r.owners.rank g.caller) → (n : ℕ)
          → Somewhere vs (r.owners.number n) (WantsNumber n) → IsUsed r.memory r.owners (set vs me (looker x wh fs)) before n
      wants_on before b n y = dite (ℕ_discrete (r.owners.number n) me)
          (λ e.
          let same : y.view ≡ v = some-injective y.view v (sym y.there ∙ (ap (get_elem? vs) e ∙ at)) in
          ⊎_elim
          (λ (q : WantsNumber n (part_of x wh)). wanted (record {
            view = looker x wh fs;
            there = ap (get_elem? (set vs me (looker x wh fs))) e ∙ set_there vs me v (looker x wh fs) at;
            holds = q;
          }))
          full
          (wants n (subst (WantsNumber n) same y.holds)))
          (λ ne. wanted (record { view = y.view; there = set_else vs me (r.owners.number n) (looker x wh fs) ne ∙ y.there; holds = y.holds }))

  -- whether the pass is known to be whole after it found so many where it expected so many
  abbrev whole_by : ℕ → ℕ → Bool
  whole_by expected x = if v.whole then true else (expected == 0 && (length v.gathered + 1 == x))

  -- what either tells, by the rule that it leaves
  gives : (dr : Number) (wh : Bool) (fs : ℕ → List Find) (ws' : List ℕ) (f : Rule z ws' (set vs me (told (part_of dr wh) zs [] fs)))
      → f.history ≡ r.history → Gives v (part_of dr wh) [] fs (told (part_of dr wh) zs [] fs)
  gives dr wh fs ws' f same =
      let w : View = told (part_of dr wh) zs [] fs in
      let seen : w.seen ≡ r.history = append-nil (v.seen ++ zs) ∙ sym is in
      record {
        others = zs;
        is = refl;
        quiet = silent_since v.caller v.seen zs is mine.mine;
        apart = λ g j. ap (made_by g.caller) (append-nil zs) ∙ silent_since g.caller v.seen zs is (mine.gathered g j).quiet;
        alone = λ e. none_added v.seen zs (sym is ∙ sym (mine.seen_all e));
        met = λ x j. absurd (subst (In x) lone j);
        came = λ x j. absurd (subst (In x) lone j);
        sound = sound_of z ws' (set vs me w) f me w (set_there vs me v w at) l refl (seen ∙ sym same);
      }

  abbrev found : ℕ
  found = get_or ws i 0

  is_found : found ≡ r.memory.draw
  is_found = r.shows.draw

  abbrev note : ℕ → ℕ → List Find
  note expected = note_draw expected found v

  draw_idle : (expected : ℕ) → AreIdle (note expected)
  draw_idle expected k f (inl q) = ap (λ (g : Find). is_number g.step) q
  draw_idle expected k f (inr i) = absurd i

  -- where the step drew nobody
  made_looked : (expected : ℕ) (x : Number) (fs : ℕ → List Find) → HasNumberInHand z r.history r.memory r.machine r.owners me v x
      → ((n : ℕ) → HasNumberIn n v.number → HasNumberIn n x) → ((n : ℕ) → HasNumberIn n x → HasNumberIn n v.number)
      → ((c : Caller) → v.number ≡ number_drawn c → x ≡ number_drawn c)
      → ((n : ℕ) → WantsNumber n v → WantsNumber n (part_of x false) ⊎ (r.memory.draw ≡ most_draws))
      → AreWithin r.memory.draw r.owners.who r.owners.rank fs → NoSlots fs → AreIdle fs → Made z ws vs me v i found (part_of x (whole_by expected found)) [] fs
  unfolding looked with_owners
  made_looked expected x fs hand keeps kept stays wants founds slots idle =
      let wh : Bool = whole_by expected found in
      let f = looked x wh fs hand keeps kept stays wants founds slots idle (go v.whole refl) in
      (told (part_of x wh) zs [] fs, f, gives x wh fs (set ws i found) f refl, append-nil (v.seen ++ zs) ∙ sym is)
    where
      go : (b : Bool) → v.whole ≡ b → (if b then true else (expected == 0 && (length v.gathered + 1 == found))) ≡ true → (c : Caller)
          → WasDrawn r.memory.draw r.owners.who r.owners.rank c → c ≢ v.caller → HasGathered c v
      go true e q c b ne = mine.whole e c b ne
      go false e q c b ne =
          counted z r.history r.memory r.machine r.owners me v lone mine
          (eqb_true (length v.gathered + 1) found (both (expected == 0) (length v.gathered + 1 == found) q) ∙ is_found) c b ne

  -- and where it drew the next caller of the number
  made_drew : (n k expected : ℕ) → v.number ≡ number_learnt n k → found ≢ most_draws
      → drawn_by v.number expected found ≡ Some (record { number = n; term = k })
      → Made z ws vs me v i (found + 1) (part_of (number_drawn (record { number = n; term = k })) false) [] (note expected)
  made_drew n k expected learnt room is_drawn =
      let c : Caller = record { number = n; term = k } in
      let d : ℕ = r.memory.draw in
      let room' : d ≢ most_draws = (λ e. room (is_found ∙ e)) in
      let noted : (j : ℕ) → DrewIn c (note expected j) = (λ j. (
        record { step = Drawing expected; found = found; seen = j; clear = is_clear v; gathered = length v.gathered; drew = drawn_by v.number expected found },
        inl refl,
        is_drawn,
      )) in
      let slots = draw_no_slots expected found v in
      let idle = draw_idle expected in
      let few = drew_within expected found (d + 1) (who' z me v l lone ws vs r at n k learnt room' (note expected) noted slots idle)
      (rank' z me v l lone ws vs r at n k learnt room' (note expected) noted slots idle) v c (let q = is_found in omega arith) is_drawn
      (now z me v l lone ws vs r at n k learnt room' (note expected) noted slots idle) in
      let f = drew z me v l lone ws vs r at n k learnt room' (note expected) noted slots idle few in
      let same = drew_history z me v l lone ws vs r at n k learnt room' (note expected) noted slots idle few in
      subst (λ (x : ℕ). Made z ws vs me v i (x + 1) (part_of (number_drawn c) false) [] (note expected)) (sym is_found) (
        told (part_of (number_drawn c) false) zs [] (note expected),
        f,
        gives (number_drawn c) false (note expected) (set ws i (d + 1)) f same,
        (append-nil (v.seen ++ zs) ∙ sym is) ∙ sym same,
      )

  -- what the step's view and word are
  abbrev Exchanged : ℕ → Bool → Option Caller → Number → Type 0
  Exchanged expected b o x = Made z ws vs me v i (either b (draw_next expected) found) (draws o x expected found v) [] (note expected)

  drew_none : (expected : ℕ) → drawn_by v.number expected found ≡ None → AreWithin r.memory.draw r.owners.who r.owners.rank (note expected)
  drew_none expected e = looked_within expected found r.memory.draw r.owners.who r.owners.rank v (let q = is_found in omega arith) e

  -- the exchange, where a number is in the hand
  exchanged : (n k expected : ℕ) → v.number ≡ number_learnt n k → (b c : Bool) → (found == expected) ≡ b → (found == most_draws) ≡ c
      → Exchanged expected b (drawn_by v.number expected found) (number_after v.number expected found)
  exchanged n k expected learnt true true e q =
      let same : found ≡ expected = eqb_true found expected e in
      let none : drawn_by v.number expected found ≡ None = ap (λ (x : Number). drawn_by x expected found) learnt
      ∙ (λ j. if e j then (if q j then None else Some (record { number = n; term = k })) else None) in
      let left : number_after v.number expected found ≡ number_left n = ap (λ (x : Number). number_after x expected found) learnt
      ∙ (λ j. if e j then (if q j then number_left n else number_drawn (record { number = n; term = k })) else number_learnt n k) in
      let stay : found ≡ draw_next expected = same ∙ sym (ap (λ (x : Bool). if x then expected else expected + 1)
      (ap (λ (x : ℕ). x == most_draws) (sym same) ∙ q)) in
      let hand : IsUndrawn z r.memory r.owners me n × (k ≡ r.memory.terms n) =
      subst (HasNumberInHand z r.history r.memory r.machine r.owners me v) learnt mine.number in
      let g = made_looked expected (number_left n) (note expected) (hand.0, inl (sym is_found ∙ eqb_true found most_draws q)) (λ x h. subst (HasNumberIn x) learnt h) (λ x h. subst (HasNumberIn x) (sym learnt) h)
      (λ c h. absurd (let p : number_learnt n k ≡ number_drawn c = sym learnt ∙ h in cc)) (λ x h. inr (sym is_found ∙ eqb_true found most_draws q))
      (drew_none expected none) (draw_no_slots expected found v) (draw_idle expected) in
      subst (λ (x : ℕ × Option Caller × Number). Made z ws vs me v i x.0 (draws x.1 x.2 expected found v) [] (note expected))
      (λ j. (stay j, sym none j, sym left j)) g
  exchanged n k expected learnt true false e q =
      let c : Caller = record { number = n; term = k } in
      let same : found ≡ expected = eqb_true found expected e in
      let some_drawn : drawn_by v.number expected found ≡ Some c = ap (λ (x : Number). drawn_by x expected found) learnt
      ∙ (λ j. if e j then (if q j then None else Some c) else None) in
      let after : number_after v.number expected found ≡ number_drawn c = ap (λ (x : Number). number_after x expected found) learnt
      ∙ (λ j. if e j then (if q j then number_left n else number_drawn c) else number_learnt n k) in
      let next : found + 1 ≡ draw_next expected = ap (λ (x : ℕ). x + 1) same ∙ sym (ap (λ (x : Bool). if x then expected else expected + 1)
      (ap (λ (x : ℕ). x == most_draws) (sym same) ∙ q)) in
      let g = made_drew n k expected learnt (λ p. eqb_false found most_draws q p) some_drawn in
      subst (λ (x : ℕ × Option Caller × Number). Made z ws vs me v i x.0 (draws x.1 x.2 expected found v) [] (note expected))
      (λ j. (next j, sym some_drawn j, sym after j)) g
  exchanged n k expected learnt false c e q =
      let none : drawn_by v.number expected found ≡ None = ap (λ (x : Number). drawn_by x expected found) learnt
      ∙ (λ j. if e j then (if q j then None else Some (record { number = n; term = k })) else None) in
      let after : number_after v.number expected found ≡ v.number = ap (λ (x : Number). number_after x expected found) learnt
      ∙ ((λ j. if e j then (if q j then number_left n else number_drawn (record { number = n; term = k })) else number_learnt n k) ∙ sym learnt) in
      let g = made_looked expected v.number (note expected) mine.number (λ x h. h) (λ x h. h) (λ c h. h) (λ x h. inl h)
      (drew_none expected none) (draw_no_slots expected found v) (draw_idle expected) in
      subst (λ (x : Option Caller × Number). Made z ws vs me v i found (draws x.0 x.1 expected found v) [] (note expected)) (λ j. (sym none j, sym after j)) g

  -- a look, which expects that nobody was drawn
  looks : v.number ≡ no_number → (b : Bool) → (found == 0) ≡ b → Exchanged 0 b (drawn_by v.number 0 found) (number_after v.number 0 found)
  looks none true e = absurd (let q = eqb_true found 0 e in let x = is_found in let y = r.begun in omega arith)
  looks none false e =
      let nobody : drawn_by v.number 0 found ≡ None = ap (λ (x : Number). drawn_by x 0 found) none in
      let after : number_after v.number 0 found ≡ v.number = ap (λ (x : Number). number_after x 0 found) none ∙ sym none in
      let g = made_looked 0 v.number (note 0) mine.number (λ x h. h) (λ x h. h) (λ c h. h) (λ x h. inl h)
      (drew_none 0 nobody) (draw_no_slots 0 found v) (draw_idle 0) in
      subst (λ (x : Option Caller × Number). Made z ws vs me v i found (draws x.0 x.1 0 found v) [] (note 0)) (λ j. (sym nobody j, sym after j)) g

  -- what the count tells
  learns_count : LearnsCount v found
  learns_count = record {
    some = (let x = r.begun in let y = is_found in omega arith);
    few = (let x = r.few in let y = is_found in omega arith);
    whole = λ w. is_found ∙ all_counted z r.history r.memory r.machine r.owners me v lone mine r.ranks w;
    complete = λ h. is_found ∙ complete_counted z ws vs r me v at l lone h;
    later = λ f h e. let a = (find_within r.memory.draw r.owners.who r.owners.rank v (r.counted me v at) f h).found e in let y = is_found in omega arith;
    undrawn = λ n t h f i e.
        let hand : IsUndrawn z r.memory r.owners me n × (t ≡ r.memory.terms n) =
        subst (HasNumberInHand z r.history r.memory r.machine r.owners me v) h mine.number in
        hand.0.fresh (subst (WasDrawn r.memory.draw r.owners.who r.owners.rank) (λ j. record { number = n; term = hand.1 j })
        ((find_within r.memory.draw r.owners.who r.owners.rank v (r.counted me v at) f i).drew (caller_of n t) e).1);
  }

-- the count of draws is exchanged for one more where it is the expected one, and fits
pub draw_steps : (z : Shape) (me : ℕ) (v : View) (expected : ℕ) → v.live ≡ true → v.met ≡ [] → CanDraw v expected
    → MayStep z (Draws expected) me v (place_at z draw_place) (λ n. either (n == expected) (draw_next expected) n)
unfolding part entries noted
draw_steps z me v expected l lone (can_draw n k learnt) = record {
  may = λ ws vs r at.
      let x : ℕ = get_or ws (place_at z draw_place) 0 in
      let g = exchanged z me v l lone ws vs r at n k expected learnt (x == expected) (x == most_draws) refl refl in
      (g.0, g.1, record { gives = g.2; learns = learns_count z me v l lone ws vs r at });
}
draw_steps z me v expected l lone (can_look none zero) = subst
    (λ (e : ℕ). MayStep z (Draws e) me v (place_at z draw_place) (λ n. either (n == e) (draw_next e) n)) (sym zero) (record {
      may = λ ws vs r at.
          let x : ℕ = get_or ws (place_at z draw_place) 0 in
          let g = looks z me v l lone ws vs r at none (x == 0) refl in
          (g.0, g.1, record { gives = g.2; learns = learns_count z me v l lone ws vs r at });
    })
