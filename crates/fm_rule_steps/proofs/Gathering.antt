-- A pass that is outside, with nothing in its hand, is gathered into another.
use Rattle.std.proofs.Common.{◌≡◌, ◌≢◌, ℕ, ◌==◌, Bool, true, if◌then◌else◌, List, ◌∷◌, set, sym, refl, ap, ◌∙◌, subst, arith, inl, inr, ⊎_elim, eq-eqb, ne_eqb, ◌⊎◌, false}
use mathlib.Core.Option.{some, some-injective}
use mathlib.Core.Logic.{dite}
use native.Mathlib.Decide.{ℕ_discrete}
use lib.ListN.{get_elem?}
use Rattle.atomic_table.proofs.Lists.{set_else}
use Rattle.fm_words.specs.declared.shape.Shape.{Shape}
use Rattle.fm_base.specs.{Calls.{Entry}, Finds.{Gathered}, declared.caller.Caller.{Caller}}
use Rattle.fm_rule_facts.specs.Views.{Met, View, In, all_gathered, brought}
use Rattle.fm_rule_facts.specs.Hands.{HasSlot, Number, no_number, number_joined, number_of_joined, HasNumberIn, last_term}
use Rattle.fm_rule_facts.specs.Facts.{WantsNumber, IsLooked, wanted, Owners, HasDraw, HasClose, HasSweep, KeepsSlot, IsGathered, IsOnce, Begins, Somewhere, Owns, Knows, Rule, IsCounted, HasPage, WasDrawn, KeepsCaller, KeepsNumber, IsSpent, HasNumberInHand}
use Rattle.fm_rule_facts.{proofs.Looking.{looked_bare, looked_gather, wants_in}, specs.{Holds.{holds_of}, Splits.{gather, as_gathered, nothing_seen, IsAtRest}}}
use Rattle.fm_rule_facts.{specs.Gone.{IsFounded}, proofs.{Ruling.{page_like}, Gone.{founded_bare, founded_gather}, Founds.{counted_bare, counted_gather}}}
use Rattle.fm_rule_facts.proofs.{Keeping.{set_there, stays_somewhere, gathered_all}, Counting.{between}, Summing.{total-set}, Gripping.{none_held}}
use Rattle.fm_rule_facts.proofs.{Seating.{knows_seats}, Working.{work_as}}
use Rattle.fm_rule_steps.proofs.{Reading.{eqb_true, eqb_false}, Joining.{all_w, comes_both, caller_on, caller_comes, number_on, draw_on, draw_comes, no_page}}
use Rattle.fm_rule_steps.proofs.Splitting.{with_owners, views_set, there_before}

module _ (z : Shape) (ws : List ℕ) (vs : List View) (r : Rule z ws vs) (id : ℕ) (v : View) (other : ℕ) (w : View) (at : get_elem? vs id ≡ some v)
    (ne : ¬ (other ≡ id)) (at' : get_elem? (set vs id (gather v w)) other ≡ some w) (l : v.live ≡ true) (free : v.number ≡ no_number)
    (rests : IsAtRest w) where
  abbrev both : View
  both = gather v w

  abbrev us : List View
  us = set (set vs id both) other nothing_seen

  there : get_elem? vs other ≡ some w
  there = there_before vs id other both w ne at'

  abbrev kv : Owns z r.history r.memory r.machine r.owners id v
  kv = (r.each id v at).owns l

  abbrev kw : Owns z r.history r.memory r.machine r.owners other w
  kw = (r.each other w there).owns rests.live

  -- the callers and the number of the other's seat go to the pass
  to : ℕ → ℕ
  to j = if j == other then id else j

  to_here : (j : ℕ) → j ≡ other → to j ≡ id
  unfolding to
  to_here j e = ap (λ (b : Bool). if b then id else j) (eq-eqb j other e)

  to_else : (j : ℕ) → j ≢ other → to j ≡ j
  unfolding to
  to_else j e = ap (λ (b : Bool). if b then id else j) (ne_eqb j other e)

  abbrev f : Caller → ℕ
  f c = to (r.owners.seat c)

  abbrev g' : ℕ → ℕ
  g' n = to (r.owners.number n)

  abbrev o' : Owners
  o' = record r.owners { seat = f; number = g' }

  -- what is at another seat than the other's stays there
  far : (j k : ℕ) → j ≢ other → k ≡ j → to k ≡ j
  far j k m e = to_else k (λ q. m (sym e ∙ q)) ∙ e

  id_far : id ≢ other
  id_far e = ne (sym e)

  -- whom the other brings
  abbrev comes : List Gathered
  comes = as_gathered w ∷ w.gathered

  seat_comes : (g : Gathered) → In g comes → r.owners.seat g.caller ≡ other
  seat_comes g (inl e) = ap (λ (x : Gathered). r.owners.seat x.caller) e ∙ kw.seated
  seat_comes g (inr i) = (kw.gathered g i).seated

  seat_v : (g : Gathered) → In g (all_gathered v) → r.owners.seat g.caller ≡ id
  seat_v g i = (gathered_all z r.history r.memory r.machine r.owners id v kv g i).1.seated

  -- no caller of the one is a caller of the other
  unlike : (m n : Caller) → r.owners.seat m ≡ id → r.owners.seat n ≡ other → n ≢ m
  unlike m n a b e = id_far (sym a ∙ (ap r.owners.seat (sym e) ∙ b))

  -- what was somewhere by its seat is there still, or with the pass
  join : (k : ℕ) (P : View → Type 0) → (P w → P both) → (P v → P both) → Somewhere vs k P → Somewhere us (to k) P
  join k P g h s = dite (ℕ_discrete k other)
      (λ e. record {
        view = both;
        there = ap (get_elem? us) (to_here k e) ∙ (set_else (set vs id both) other id nothing_seen id_far ∙ set_there vs id v both at);
        holds = g (subst P (some-injective s.view w (sym s.there ∙ (ap (get_elem? vs) e ∙ there))) s.holds);
      })
      (λ m.
      let q = stays_somewhere vs id v both k P at h s in
      record {
        view = q.view;
        there = ap (get_elem? us) (to_else k m) ∙ (set_else (set vs id both) other k nothing_seen m ∙ q.there);
        holds = q.holds;
      })

  -- ---- the other's number

  abbrev c : Caller
  c = w.caller

  abbrev hand_by : Bool → Number
  hand_by b = if b then no_number else number_joined c

  is_hand : (b : Bool) → (c.term == last_term) ≡ b → number_of_joined c ≡ hand_by b
  is_hand b e = ap hand_by e

  numbers_apart : c.number ≢ v.caller.number
  numbers_apart e = id_far (sym kv.owner ∙ (ap r.owners.number (sym e) ∙ kw.owner))

  joined_by : (b : Bool) → (c.term == last_term) ≡ b → HasNumberInHand z r.history r.memory r.machine o' id both (hand_by b)
  joined_by true e = tt
  joined_by false e = record {
    loose = record {
      low = (r.terms c kw.drawn).0;
      owner = to_here (r.owners.number c.number) kw.owner;
      bit = kw.bit;
      mark = kw.work.mark ∙ rests.mark;
    };
    term = kw.term;
    left = (let x = (r.terms c kw.drawn).1 in let y = r.last c.number in let n = eqb_false c.term last_term e in omega arith);
    gathered = (as_gathered w, comes_both v w rests (as_gathered w) (inl refl), refl);
  }

  in_hand : HasNumberInHand z r.history r.memory r.machine o' id both (number_of_joined c)
  in_hand = joined_by (c.term == last_term) refl

  not_own : (b : Bool) (n : ℕ) → HasNumberIn n (hand_by b) → n ≢ v.caller.number
  not_own true n i = absurd i
  not_own false n i = λ q. numbers_apart (sym i ∙ q)

  -- it is in the hand, or had its last term
  number_comes : (b : Bool) → (c.term == last_term) ≡ b → (n : ℕ) → n ≡ c.number → HasNumberIn n (hand_by b) ⊎ IsSpent r.memory r.owners n
  number_comes true e n q =
      let last : r.memory.terms n ≡ last_term = ap r.memory.terms q ∙ (sym kw.term ∙ eqb_true c.term last_term e) in
      let same : c ≡ record { number = n; term = r.memory.terms n } =
      λ i. record { number = sym q i; term = (kw.term ∙ ap r.memory.terms (sym q)) i } in
      inr (record {
        mark = ap r.memory.marks q ∙ (kw.work.mark ∙ rests.mark);
        last = last;
        drawn = subst (WasDrawn r.memory.draw r.owners.who r.owners.rank) same kw.drawn;
      })
  number_comes false e n q = inl q

  number_now : (n : ℕ) → Somewhere vs (r.owners.number n) (KeepsNumber n) → Somewhere us (g' n) (KeepsNumber n) ⊎ IsSpent r.memory r.owners n
  number_now n s = dite (ℕ_discrete (r.owners.number n) other)
      (λ e.
      let has : KeepsNumber n w = subst (KeepsNumber n) (some-injective s.view w (sym s.there ∙ (ap (get_elem? vs) e ∙ there))) s.holds in
      ⊎_elim
      (λ (q : c.number ≡ n). ⊎_elim
      (λ (i : HasNumberIn n (hand_by (c.term == last_term))). inl (record {
        view = both;
        there = ap (get_elem? us) (to_here (r.owners.number n) e)
            ∙ (set_else (set vs id both) other id nothing_seen id_far ∙ set_there vs id v both at);
        holds = (l, inr i);
      }))
      inr
      (number_comes (c.term == last_term) refl n (sym q)))
      (λ (i : HasNumberIn n w.number). absurd (subst (HasNumberIn n) rests.number i))
      has.1)
      (λ m. inl (join (r.owners.number n) (KeepsNumber n) (λ h. absurd (m' h m)) (number_on v w rests free n) s))
    where
      m' : KeepsNumber n w → r.owners.number n ≢ other → ⊥
      m' h m = ⊎_elim
          (λ (q : c.number ≡ n). m (ap r.owners.number (sym q) ∙ kw.owner))
          (λ (i : HasNumberIn n w.number). subst (HasNumberIn n) rests.number i)
          h.1

  -- ---- what each says

  at_both : (xs : List Entry) (g : Gathered) → IsGathered r.history r.memory r.machine r.owners id v xs g
      → IsGathered r.history r.memory r.machine o' id both xs g
  at_both xs g y = record {
    drawn = y.drawn;
    seated = far id (r.owners.seat g.caller) id_far y.seated;
    apart = y.apart;
    outside = y.outside;
    quiet = y.quiet;
  }

  came : (g : Gathered) → In g comes → IsGathered r.history r.memory r.machine o' id both w.seen g
  came g (inl e) = subst (IsGathered r.history r.memory r.machine o' id both w.seen) (sym e) (record {
    drawn = kw.drawn;
    seated = to_here (r.owners.seat w.caller) kw.seated;
    apart = unlike v.caller w.caller kv.seated kw.seated;
    outside = kw.work.inside ∙ rests.inside;
    quiet = kw.mine;
  })
  came g (inr i) =
      let y = kw.gathered g i in
      record {
        drawn = y.drawn;
        seated = to_here (r.owners.seat g.caller) y.seated;
        apart = unlike v.caller g.caller kv.seated y.seated;
        outside = y.outside;
        quiet = y.quiet;
      }

  comes_once : IsOnce (λ (g : Gathered). g.caller) comes
  comes_once = ((λ g i. (kw.gathered g i).apart), subst (IsOnce (λ (g : Gathered). g.caller)) (all_w v w rests) kw.one_each)

  -- a pass that another is gathered into isn't whole
  not_whole : v.whole ≡ true → ⊥
  not_whole e =
      let g = kv.whole e w.caller kw.drawn (unlike v.caller w.caller kv.seated kw.seated) in
      unlike g.0.caller w.caller (seat_v g.0 g.1) kw.seated (sym g.2)

  both_knows : Knows z r.history r.memory r.machine o' id both
  both_knows =
      let k = r.each id v at in
      record {
        shape = k.shape;
        begins = k.begins;
        met = λ x. ⊎_elim
            (λ (p : x ≡ record { seen = w.seen; gathered = comes }). subst (λ (m : Met). Begins m.seen r.history) (sym p) (r.each other w there).begins)
            (λ (p : In x v.met). k.met x p);
        owns = λ q. record {
          drawn = kv.drawn;
          term = kv.term;
          seated = far id (r.owners.seat v.caller) id_far kv.seated;
          owner = far id (r.owners.number v.caller.number) id_far kv.owner;
          bit = kv.bit;
          mine = kv.mine;
          work = work_as kv.work;
          gathered = λ g i. at_both v.seen g (kv.gathered g i);
          coming = λ x. ⊎_elim
              (λ (p : x ≡ record { seen = w.seen; gathered = comes }) g i.
              subst (λ (m : Met). IsGathered r.history r.memory r.machine o' id both m.seen g) (sym p) (came g (subst (λ (m : Met). In g m.gathered) p i)))
              (λ (p : In x v.met) g i. at_both x.seen g (kv.coming x p g i));
          one_each = between (λ (g : Gathered). g.caller) v.gathered (brought v.met) comes kv.one_each comes_once
              (λ x y i j. unlike x.caller y.caller (seat_v x i) (seat_comes y j));
          number = in_hand;
          not_own = not_own (c.term == last_term);
          whole = λ e. absurd (not_whole e);
          handles = kv.handles;
          seen_all = λ e. absurd (not_whole e);
        };
      }

  -- another view
  other_knows : (j : ℕ) (u : View) → j ≢ other → Knows z r.history r.memory r.machine r.owners j u → Knows z r.history r.memory r.machine o' j u
  other_knows j u m = knows_seats (λ c. far j (r.owners.seat c) m) (λ n. far j (r.owners.number n) m)

  abbrev Founded : ℕ → View → Type 0
  Founded j u = IsFounded z r.history r.memory r.owners.taker r.machine.life u

  -- the pass has the other's numbers, and the other is spent
  pub gather_joins : Rule z ws us
  gather_joins =
      with_owners z ws ws vs us r refl f g'
      (λ d h. join (r.owners.seat d) (KeepsCaller d) (caller_comes v w rests d) (caller_on v w rests free d) (r.callers d h))
      (λ n i h.
      let y = r.drawers n i h in
      let a : Caller = r.owners.who y.0 in
      let b : Caller = r.owners.who n in
      (y.0, y.1, join (r.owners.seat a) (HasDraw a b) (draw_comes v w rests a b) (draw_on v w rests a b) y.2))
      (λ n low b. ⊎_elim (number_now n) inr (r.numbers n low b))
      (λ a h. stays_somewhere (set vs id both) other w nothing_seen (r.owners.closer a) (HasClose a) at'
      (λ (q : HasClose a w). absurd (subst (In q.1.0) rests.closes q.1.1))
      (stays_somewhere vs id v both (r.owners.closer a) (HasClose a) at (λ q. q) (r.closed a h)))
      (λ a f o. stays_somewhere (set vs id both) other w nothing_seen (r.owners.closer a) (HasSweep a) at'
      (λ (q : HasSweep a w). absurd (subst (In q.1.0) rests.sweeps q.1.1))
      (stays_somewhere vs id v both (r.owners.closer a) (HasSweep a) at (λ q. q) (r.swept a f o)))
      (λ s g h f left b. stays_somewhere (set vs id both) other w nothing_seen (r.owners.holder s) (KeepsSlot s) at'
      (λ (q : KeepsSlot s w). absurd (subst (HasSlot s) rests.hand q.1))
      (stays_somewhere vs id v both (r.owners.holder s) (KeepsSlot s) at (λ q. q) (r.slots s g h f left b)))
      (λ q j b. stays_somewhere (set vs id both) other w nothing_seen j (HasPage q (r.owners.berth q)) at'
      (λ h. absurd (no_page v w rests z r.history r.memory r.machine r.owners other kw q (r.owners.berth q) h))
      (stays_somewhere vs id v both j (HasPage q (r.owners.berth q)) at (page_like q (r.owners.berth q) v both refl refl refl) (r.berths q j b)))
      (views_set (set vs id both) other nothing_seen (Knows z r.history r.memory r.machine o')
      (record { shape = λ q. absurd (cc); begins = (r.history, refl); met = λ x i. absurd i; owns = λ q. absurd (cc) })
      (λ j u m e. views_set vs id both (λ k y. k ≢ other → Knows z r.history r.memory r.machine o' k y) (λ m. both_knows)
      (λ k y c e' m. other_knows k y m (r.each k y e')) j u e m))
      (views_set (set vs id both) other nothing_seen (λ j u. IsCounted r.memory.draw r.owners.who r.owners.rank u) (counted_bare r.memory.draw r.owners.who r.owners.rank nothing_seen refl refl)
      (λ j u m e. views_set vs id both (λ j u. IsCounted r.memory.draw r.owners.who r.owners.rank u) (counted_gather r.memory.draw r.owners.who r.owners.rank v w (r.counted id v at) (r.counted other w there))
      (λ j u m e. r.counted j u e) j u e))
      (views_set (set vs id both) other nothing_seen Founded (founded_bare z r.history r.memory r.owners.taker r.machine.life nothing_seen refl refl)
      (λ j u m e. views_set vs id both Founded
      (founded_gather z r.history r.memory r.owners.taker r.machine.life v w (r.founds id v at) (r.founds other w there)) (λ j u m e. r.founds j u e) j u e))
      (views_set (set vs id both) other nothing_seen (λ j u. IsLooked z r.memory r.owners vs u)
      (looked_bare z r.memory r.owners vs nothing_seen refl refl)
      (λ j u m e. views_set vs id both (λ j u. IsLooked z r.memory r.owners vs u)
      (looked_gather z r.memory r.owners vs v w (r.looked id v at) (r.looked other w there)) (λ j u m e. r.looked j u e) j u e))
      (λ b q n y. wanted (join (r.owners.number n) (WantsNumber n) (λ h. absurd (subst (HasNumberIn n) rests.number (wants_in n w h)))
      (λ h. absurd (subst (HasNumberIn n) free (wants_in n v h))) y))
      (λ a.
      let x = total-set (holds_of a) vs id v both at in
      let y = total-set (holds_of a) (set vs id both) other w nothing_seen at' in
      let here : holds_of a both ≡ holds_of a v = refl in
      let gone : holds_of a w ≡ 0 = none_held a w rests.holds rests.handles in
      let none : holds_of a nothing_seen ≡ 0 = refl in omega arith)
