-- A pass is cut in two after a draw: the drawer, and the pass of the number that was drawn.
use Rattle.std.proofs.Common.{◌≡◌, ◌≢◌, ℕ, true, List, [], ◌∷◌, ◌++◌, length, set, sym, refl, ap, ◌∙◌, subst, arith, inl, inr, ⊎_elim}
use Rattle.std.proofs.lemmas.List.Elements.{filter-append}
use mathlib.Core.Option.{some, some-injective}
use mathlib.Core.Logic.{dite}
use native.Mathlib.Decide.{ℕ_discrete}
use lib.ListN.{get_elem?}
use Rattle.fm_words.specs.declared.shape.Shape.{Shape}
use Rattle.fm_base.specs.{declared.caller.Caller.{Caller}, Calls.{Entry}, Histories.{made_by}, Finds.{Gathered}}
use Rattle.fm_base_machine.{specs.{Handles.{AreLeft}, Functions.{put, put_by}}, proofs.Putting.{put_here, put_else, by_here, by_else, one_caller}}
use Rattle.fm_rule_facts.specs.{Views.{Met, View, In, all_gathered, brought}, Holds.{holds_of}, Splits.{drawn_left, drawn_right, caller_or}}
use Rattle.fm_rule_facts.specs.Facts.{Owners, HasDraw, HasClose, HasSweep, KeepsSlot, IsGathered, IsDrawn, Somewhere, Owns, Knows, Rule, IsCounted, HasPage, WantsNumber, IsLooked, wanted, HasNumberInHand, WasDrawn, bit_of, KeepsCaller, KeepsNumber}
use Rattle.fm_rule_facts.{specs.{Hands.{number_taken, number_learnt, number_drawn, HasNumberIn}, Gone.{IsFounded}}, proofs.Looking.{looked_bare}}
use Rattle.fm_rule_facts.proofs.{Ruling.{page_like}, Gone.{founded_bare}, Founds.{counted_bare}, Keeping.{stays_somewhere, in_left, in_right}}
use Rattle.fm_rule_facts.proofs.{Summing.{total-set, total-snoc}, Gripping.{none_held}, Seating.{knows_seats}, Working.{work_as, no_work}}
use Rattle.fm_rule_steps.proofs.Splitting.{with_owners, views_set, views_on, on_longer}

at_last : {A : Type 0} (l : List A) (a : A) → get_elem? (l ++ a ∷ []) (length l) ≡ some a
at_last [] a = refl
at_last (x ∷ xs) a = at_last xs a

-- who came with one that was met is among all that came
brought_in : (g : Gathered) (x : Met) (xs : List Met) → In x xs → In g x.gathered → In g (brought xs)
brought_in g x [] i j = absurd i
brought_in g x (y ∷ xs) (inl e) j = in_left g y.gathered (brought xs) (subst (λ (m : Met). In g m.gathered) e j)
brought_in g x (y ∷ xs) (inr i) j = in_right g y.gathered (brought xs) (brought_in g x xs i j)

nil_left : {A : Type 0} (xs ys : List A) → xs ++ ys ≡ [] → xs ≡ []
nil_left [] ys e = refl
nil_left (x ∷ xs) ys e = absurd (cc)

-- who made nothing in a history made nothing in its beginning
none_seen : (xs ys : List Entry) (c : Caller) → made_by c (xs ++ ys) ≡ [] → made_by c xs ≡ []
none_seen xs ys c e = nil_left (made_by c xs) (made_by c ys) (sym (filter-append _ xs ys) ∙ e)

module _ (z : Shape) (ws : List ℕ) (vs : List View) (r : Rule z ws vs) (id : ℕ) (v : View) (d : Caller) (at : get_elem? vs id ≡ some v) (l : v.live ≡ true)
    (drawn : v.number ≡ number_drawn d) where
  abbrev left : View
  left = drawn_left v

  abbrev right : View
  right = drawn_right v

  abbrev last : ℕ
  last = length (set vs id left)

  abbrev f : Caller → ℕ
  f = put_by r.owners.seat d last

  abbrev g : ℕ → ℕ
  g = put r.owners.number d.number last

  abbrev o' : Owners
  o' = record r.owners { seat = f; number = g }

  abbrev mine : Owns z r.history r.memory r.machine r.owners id v
  mine = (r.each id v at).owns l

  its : IsDrawn z r.history r.memory r.machine r.owners id v d
  its = subst (HasNumberInHand z r.history r.memory r.machine r.owners id v) drawn mine.number

  caller_is : caller_or v.number ≡ d
  caller_is = ap caller_or drawn

  not_own : d.number ≢ v.caller.number
  not_own = mine.not_own d.number (subst (HasNumberIn d.number) (sym drawn) refl)

  -- a caller that is gathered stays at its seat
  still : (j : ℕ) (u : View) → ((k : Gathered) → In k (all_gathered u) → k.caller ≢ d)
      → (xs : List Entry) (k : Gathered) → In k (all_gathered u) → IsGathered r.history r.memory r.machine r.owners j u xs k
      → IsGathered r.history r.memory r.machine o' j u xs k
  still j u far xs k i y = record {
    drawn = y.drawn;
    seated = by_else r.owners.seat d last k.caller (far k i) ∙ y.seated;
    apart = y.apart;
    outside = y.outside;
    quiet = y.quiet;
  }

  -- another caller isn't the drawn one, where it is at another seat; nor is a number
  elsewhere : (j : ℕ) (c : Caller) → j ≢ id → r.owners.seat c ≡ j → c ≢ d
  elsewhere j c far s e = far (sym s ∙ (ap r.owners.seat e ∙ its.seated))

  apart_from : (j n : ℕ) → j ≢ id → r.owners.number n ≡ j → n ≢ d.number
  apart_from j n far s e = far (sym s ∙ (ap r.owners.number e ∙ its.loose.owner))

  caller_on : (c : Caller) → c ≢ d → KeepsCaller c v → KeepsCaller c left
  caller_on c ne (inl h) = inl h
  caller_on c ne (inr (inl h)) = absurd (ne (let q : number_drawn c ≡ number_drawn d = sym h ∙ drawn in cc))
  caller_on c ne (inr (inr h)) = inr (inr h)

  number_on : (n : ℕ) → n ≢ d.number → KeepsNumber n v → KeepsNumber n left
  number_on n ne h = (h.0, ⊎_elim inl (λ (i : HasNumberIn n v.number). absurd (ne (subst (HasNumberIn n) drawn i))) h.1)

  -- nobody was drawn by the drawn caller yet
  no_draw : (n e : Caller) → e ≡ d → Somewhere vs (r.owners.seat e) (HasDraw e n) → ⊥
  no_draw n e q s =
      let same : s.view ≡ v = some-injective s.view v (sym s.there ∙ (ap (get_elem? vs) (ap r.owners.seat q ∙ its.seated) ∙ at)) in
      go (subst (λ (u : View). HasDraw e n u) same s.holds)
    where
      go : HasDraw e n v → ⊥
      go (inl h) = its.apart (sym q ∙ sym h.1)
      go (inr h) = its.ungathered h.0 h.1 (h.2 ∙ q)

  at_left : (xs : List Entry) (k : Gathered) → IsGathered r.history r.memory r.machine o' id v xs k → IsGathered r.history r.memory r.machine o' id left xs k
  at_left xs k y = record { drawn = y.drawn; seated = y.seated; apart = y.apart; outside = y.outside; quiet = y.quiet }

  -- what the drawer says
  left_knows : Knows z r.history r.memory r.machine o' id left
  left_knows =
      let k = r.each id v at in
      let u = mine in
      record {
        shape = k.shape;
        begins = k.begins;
        met = k.met;
        owns = λ q. record {
          drawn = u.drawn;
          term = u.term;
          seated = by_else r.owners.seat d last v.caller (λ e. its.apart (sym e)) ∙ u.seated;
          owner = put_else r.owners.number d.number last v.caller.number (λ e. not_own (sym e)) ∙ u.owner;
          bit = u.bit;
          mine = u.mine;
          work = work_as u.work;
          gathered = λ k i. at_left v.seen k (still id v its.ungathered v.seen k (in_left k v.gathered (brought v.met) i) (u.gathered k i));
          coming = λ x j k i.
              at_left x.seen k (still id v its.ungathered x.seen k (in_right k v.gathered (brought v.met) (brought_in k x v.met j i)) (u.coming x j k i));
          one_each = u.one_each;
          number = tt;
          not_own = λ n i. absurd i;
          whole = u.whole;
          handles = u.handles;
          seen_all = u.seen_all;
        };
      }

  -- the new pass's caller made no entry yet
  right_silent : made_by right.caller v.seen ≡ []
  right_silent = ap (λ (c : Caller). made_by c v.seen) caller_is
      ∙ none_seen v.seen (r.each id v at).begins.0 d (ap (made_by d) (sym (r.each id v at).begins.1) ∙ its.silent.calls)

  -- what the new pass says
  right_knows : Knows z r.history r.memory r.machine o' last right
  right_knows = record {
    shape = λ q. (r.each id v at).shape l;
    begins = (r.each id v at).begins;
    met = λ x i. absurd i;
    owns = λ q. record {
      drawn = subst (WasDrawn r.memory.draw r.owners.who r.owners.rank) (sym caller_is) its.drawn;
      term = subst (λ (c : Caller). c.term ≡ r.memory.terms c.number) (sym caller_is) its.term;
      seated = ap f caller_is ∙ by_here r.owners.seat d last;
      owner = ap (λ (c : Caller). g c.number) caller_is ∙ put_here r.owners.number d.number last;
      bit = ap (λ (c : Caller). bit_of r.memory.numbers c.number) caller_is ∙ its.loose.bit;
      mine = ap (λ (c : Caller). made_by c r.history) caller_is ∙ (its.silent.calls ∙ sym right_silent);
      work = no_work (ap r.machine.inside caller_is ∙ its.silent.outside) (ap (λ (c : Caller). r.memory.marks c.number) caller_is ∙ its.loose.mark);
      gathered = λ k i. absurd i;
      coming = λ x i. absurd i;
      one_each = tt;
      number = tt;
      not_own = λ n i. absurd i;
      whole = λ e. absurd (cc);
      handles = λ a i. subst (λ (es : List Entry). AreLeft a es 0) (sym right_silent) refl;
      seen_all = λ e. absurd (cc);
    };
  }

  -- another view
  other_knows : (j : ℕ) (u : View) → j ≢ id → Knows z r.history r.memory r.machine r.owners j u → Knows z r.history r.memory r.machine o' j u
  other_knows j u away = knows_seats
      (λ c e. by_else r.owners.seat d last c (elsewhere j c away e) ∙ e) (λ n e. put_else r.owners.number d.number last n (apart_from j n away e) ∙ e)

  unwanted : (n : ℕ) → ¬ (WantsNumber n v)
  unwanted n h = ⊎_elim (λ (e : v.number ≡ number_taken n). let q : number_taken n ≡ number_drawn d = sym e ∙ drawn in absurd (cc))
      (λ (e : (t : ℕ) × (v.number ≡ number_learnt n t)). let q : number_learnt n e.0 ≡ number_drawn d = sym e.1 ∙ drawn in absurd (cc)) h.1

  left_counted : IsCounted r.memory.draw r.owners.who r.owners.rank left
  left_counted = let c = r.counted id v at in record { finds = c.finds; theirs = c.theirs }

  on_left : (i : ℕ) (P : View → Type 0) → (P v → P left) → Somewhere vs i P → Somewhere (set vs id left ++ right ∷ []) i P
  on_left i P h s = on_longer (set vs id left) right i P (stays_somewhere vs id v left i P at h s)

  abbrev us : List View
  us = set vs id left ++ right ∷ []

  -- the drawn caller and its number go to the new pass
  pub draw_splits : Rule z ws us
  draw_splits =
      with_owners z ws ws vs us r refl f g
      (λ c h. elim (one_caller c d) [
        | yes e ↦ record {
          view = right;
          there = ap (get_elem? us) (ap f e ∙ by_here r.owners.seat d last) ∙ at_last (set vs id left) right;
          holds = inl (refl, caller_is ∙ sym e);
        }
        | no ne ↦ subst (λ (i : ℕ). Somewhere us i (KeepsCaller c)) (sym (by_else r.owners.seat d last c ne))
            (on_left (r.owners.seat c) (KeepsCaller c) (caller_on c ne) (r.callers c h))
      ])
      (λ n i h.
      let y = r.drawers n i h in
      let a : Caller = r.owners.who y.0 in
      let b : Caller = r.owners.who n in (
        y.0,
        y.1,
        subst (λ (k : ℕ). Somewhere us k (HasDraw a b))
            (sym (by_else r.owners.seat d last a (λ e. no_draw b a e y.2)))
            (on_left (r.owners.seat a) (HasDraw a b) (λ q. q) y.2),
      ))
      (λ n low b. dite (ℕ_discrete n d.number)
      (λ e. inl (record {
        view = right;
        there = ap (get_elem? us) (ap g e ∙ put_here r.owners.number d.number last) ∙ at_last (set vs id left) right;
        holds = (refl, inl (ap (λ (c : Caller). c.number) caller_is ∙ sym e));
      }))
      (λ ne. ⊎_elim
      (λ (y : Somewhere vs (r.owners.number n) (KeepsNumber n)). inl (subst (λ (i : ℕ). Somewhere us i (KeepsNumber n))
      (sym (put_else r.owners.number d.number last n ne)) (on_left (r.owners.number n) (KeepsNumber n) (number_on n ne) y)))
      inr
      (r.numbers n low b)))
      (λ a h. on_left (r.owners.closer a) (HasClose a) (λ q. q) (r.closed a h))
      (λ a f o. on_left (r.owners.closer a) (HasSweep a) (λ q. q) (r.swept a f o))
      (λ s g h f left b. on_left (r.owners.holder s) (KeepsSlot s) (λ q. q) (r.slots s g h f left b))
      (λ q j b. on_left j (HasPage q (r.owners.berth q)) (page_like q (r.owners.berth q) v left refl refl refl) (r.berths q j b))
      (views_on (set vs id left) right (Knows z r.history r.memory r.machine o') right_knows
      (views_set vs id left (Knows z r.history r.memory r.machine o') left_knows (λ j u far e. other_knows j u far (r.each j u e))))
      (views_on (set vs id left) right (λ j u. IsCounted r.memory.draw r.owners.who r.owners.rank u)
      (counted_bare r.memory.draw r.owners.who r.owners.rank right refl refl)
      (views_set vs id left (λ j u. IsCounted r.memory.draw r.owners.who r.owners.rank u) left_counted (λ j u far e. r.counted j u e)))
      (views_on (set vs id left) right (λ j u. IsFounded z r.history r.memory r.owners.taker r.machine.life u)
      (founded_bare z r.history r.memory r.owners.taker r.machine.life right refl refl)
      (views_set vs id left (λ j u. IsFounded z r.history r.memory r.owners.taker r.machine.life u)
      (let y = r.founds id v at in record { finds = y.finds; theirs = y.theirs }) (λ j u far e. r.founds j u e)))
      (views_on (set vs id left) right (λ j u. IsLooked z r.memory r.owners vs u) (looked_bare z r.memory r.owners vs right refl refl)
      (views_set vs id left (λ j u. IsLooked z r.memory r.owners vs u)
      (let y = r.looked id v at in record { few = y.few; finds = y.finds; theirs = y.theirs }) (λ j u far e. r.looked j u e)))
      (λ b q n y.
      let far : n ≢ d.number = (λ e.
      let same : y.view ≡ v = some-injective y.view v (sym y.there ∙ (ap (get_elem? vs) (ap r.owners.number e ∙ its.loose.owner) ∙ at)) in
      unwanted n (subst (WantsNumber n) same y.holds)) in
      wanted (subst (λ (i : ℕ). Somewhere us i (WantsNumber n)) (sym (put_else r.owners.number d.number last n far))
      (on_left (r.owners.number n) (WantsNumber n) (λ q. absurd (unwanted n q)) y)))
      (λ a.
      let x = total-snoc (holds_of a) (set vs id left) right in
      let y = total-set (holds_of a) vs id v left at in
      let same : holds_of a left ≡ holds_of a v = refl in
      let none : holds_of a right ≡ 0 = none_held a right refl refl in
      omega arith)
