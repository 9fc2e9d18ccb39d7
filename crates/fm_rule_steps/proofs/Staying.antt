-- What stays over a step that leaves it, as the rule wants it of the step.
use Rattle.std.{proofs.Common.{◌≡◌, ◌≢◌, ℕ, true, List, ◌++◌, sym, refl, ap, ◌∙◌, subst, arith, inl, inr, Option, ⊎_elim, ◌/◌, ◌%◌}, specs.Int.{bit_at}}
use mathlib.Core.Option.{some}
use lib.ListN.{get_elem?}
use Rattle.fm_words.specs.declared.shape.Shape.{Shape}
use Rattle.fm_base.specs.{declared.{caller.Caller.{Caller}, arena_id.ArenaId.{ArenaId}}, Calls.{Entry}, Finds.{Close, Gathered, Sweep}}
use Rattle.fm_base_machine.specs.{Functions.{Over, Machine}, Steps.{moved_by}}
use native.Mathlib.Decide.{ℕ_discrete}
use Rattle.fm_rule_facts.specs.Hands.{Hand, HasSlot, Number, no_number, number_taken, number_learnt, number_drawn, number_left, number_joined, HasNumberIn, most_draws}
use Rattle.fm_rule_facts.{proofs.Handing.{hand_on}, specs.Views.{View, In, limit_of, all_gathered, brought}}
use Rattle.fm_rule_facts.specs.Facts.{PoolWords, free, shut, Owners, HasInHand, HasSweep, KeepsSlot, Owns, Rule, WasDrawn, bit_of, next_of, IsLoose, KeepsNumber, HasNumberInHand, IsUndrawn}
use Rattle.fm_rule_facts.specs.Moves.{Moved, Same, KeepsSweeps, KeepsSlots, KeepsPages, NumbersOn, KeepsHand}
use Rattle.fm_rule_facts.{proofs.{Keeping.{silent_on, drawn_still, drawn_before}, Ruling.{page_like}}, specs.Parts.{Mapping, Swept}}
use Rattle.fm_rule_steps.proofs.Knowing.{own}

-- a step leaves all but these
pub same_but : {v : View} {inside mark : Option ArenaId} {closes : List Close} {sweeps : List Sweep} {swept : Swept} {hand : Hand} {holds handles : List ArenaId}
    {pages : List ℕ} {reads : List Mapping}
    → Same v (record v {
      inside = inside;
      mark = mark;
      closes = closes;
      sweeps = sweeps;
      swept = swept;
      hand = hand;
      holds = holds;
      handles = handles;
      pages = pages;
      reads = reads;
    })
same_but = record {
  home = refl;
  shape = refl;
  live = refl;
  caller = refl;
  seen = refl;
  met = refl;
  finds = refl;
  gathered = refl;
  whole = refl;
}

-- a slot in the hand stays there where free slots and slot bits stay
pub hand_still : (z : Shape) (m m' : PoolWords) (holder : ℕ → ℕ) (me : ℕ) → ((s g : ℕ) → m.sessions s ≡ free g → m'.sessions s ≡ free g) → m'.bits ≡ m.bits
    → (hand : Hand) → HasInHand z m.bits m.sessions holder me hand → HasInHand z m'.bits m'.sessions holder me hand
hand_still z m m' holder me still bits =
    hand_on z m.bits m'.bits m.sessions m'.sessions holder holder me (λ s g f b e. (e, still s g f, ap (λ (n : ℕ). bit_at n s) bits ∙ b))

-- each sweep is where it was
pub sweeps_still : (me : ℕ) (v p : View) (m : PoolWords) (t : Machine) (o : Owners) (m' : PoolWords) (t' : Machine) (o' : Owners) → Same v p → p.sweeps ≡ v.sweeps
    → ((a : ArenaId) → t.life a ≡ Over → o'.closer a ≡ o.closer a) → ((a : ArenaId) → m'.sessions a.slot ≡ shut a → t'.life a ≡ Over
    → (m.sessions a.slot ≡ shut a) × (t.life a ≡ Over)) → KeepsSweeps me v p m t o m' t' o'
sweeps_still me v p m t o m' t' o' s sw same was a f h =
    let y = was a f h in
    inr (y.0, y.1, same a y.1, (λ (x : HasSweep a v). (s.live ∙ x.0, (x.1.0, subst (In x.1.0) (sym sw) x.1.1, x.1.2))))

pub pages_there : (me : ℕ) (o : Owners) (v p : View) → Same v p → p.pages ≡ v.pages → p.swept ≡ v.swept → KeepsPages me v p o o
pages_there me o v p s paged swept q j b = inr (refl, page_like q (o.berth q) v p s.live paged swept)

-- and each free slot whose bit is 0 is where it was
pub slots_still : (z : Shape) (me : ℕ) (v p : View) (m : PoolWords) (o : Owners) (m' : PoolWords) (o' : Owners) → Same v p → p.hand ≡ v.hand
    → ((s : ℕ) → o'.holder s ≡ o.holder s) → ((s g : ℕ) → m'.sessions s ≡ free g → m.sessions s ≡ free g) → m'.bits ≡ m.bits
    → KeepsSlots z me v p m o m' o'
slots_still z me v p m o m' o' s hd same back bits i g low f left b =
    inr (back i g f, ap (λ (n : ℕ). bit_at n i) (sym bits) ∙ b, same i, (λ (y : KeepsSlot i v). (s.live ∙ y.0, subst (HasSlot i) (sym hd) y.1)))

module _ (z : Shape) (ws : List ℕ) (vs : List View) (r : Rule z ws vs) (me : ℕ) (v : View) (at : get_elem? vs me ≡ some v) (l : v.live ≡ true) where
  abbrev mine : Owns z r.history r.memory r.machine r.owners me v
  mine = own z ws vs r me v at l

  -- where a step leaves numbers and terms as they are, so does the hand
  module _ (es : List Entry) (m' : PoolWords) (o' : Owners) (p : View) (d : Moved me z v.caller r.memory r.machine r.owners es m' o') (s : Same v p)
      (hand : p.number ≡ v.number) (numbers : (g : ℕ) → m'.numbers g ≡ r.memory.numbers g) (terms : (n : ℕ) → m'.terms n ≡ r.memory.terms n)
      (owner : (n : ℕ) → o'.number n ≡ r.owners.number n) where
    bit_is : (n : ℕ) → bit_of m'.numbers n ≡ bit_of r.memory.numbers n
    bit_is n = ap (λ (w : ℕ). bit_at w (n % 64)) (numbers (n / 64))

    still : (c : Caller) → WasDrawn r.memory.draw r.owners.who r.owners.rank c → WasDrawn m'.draw o'.who o'.rank c
    still = drawn_still d

    before : (c : Caller) → WasDrawn m'.draw o'.who o'.rank c → WasDrawn r.memory.draw r.owners.who r.owners.rank c
    before = drawn_before d

    fresh_on : (n : ℕ) → ¬ (WasDrawn r.memory.draw r.owners.who r.owners.rank (next_of r.memory.terms n)) → ¬ (WasDrawn m'.draw o'.who o'.rank (next_of m'.terms n))
    fresh_on n f q = f (before (next_of r.memory.terms n)
        (subst (λ (x : ℕ). WasDrawn m'.draw o'.who o'.rank (record { number = n; term = x })) (terms n) q))

    pub numbers_stay : NumbersOn z me v p r.memory r.owners m' o'
    numbers_stay = record {
      kept = λ n low b. elim (ℕ_discrete n v.caller.number) [
        | yes e ↦ inl (ap o'.number e ∙ (owner v.caller.number ∙ mine.owner), (s.live ∙ l, inl (ap (λ (x : Caller). x.number) s.caller ∙ sym e)))
        | no ne ↦ inr (inl (
          sym (bit_is n) ∙ b,
          owner n,
          terms n,
          d.marks n ne,
          (λ (y : KeepsNumber n v). (
            s.live ∙ y.0,
            ⊎_elim
                (λ (q : v.caller.number ≡ n). inl (ap (λ (x : Caller). x.number) s.caller ∙ q))
                (λ (q : HasNumberIn n v.number). inr (subst (HasNumberIn n) (sym hand) q))
                y.1,
          )),
        ))
      ];
      freed = λ n b.
          let bit : bit_of r.memory.numbers n ≡ 1 = sym (bit_is n) ∙ b in
          let y = r.free_numbers n bit in
          let ne : n ≢ v.caller.number = (λ e. let z : bit_of r.memory.numbers n ≡ 0 = ap (bit_of r.memory.numbers) e ∙ mine.bit in omega arith) in
          record { mark = d.marks n ne ∙ y.mark; fresh = fresh_on n y.fresh };
      terms = record {
        terms = λ n. (let e = terms n in omega arith);
        last = λ n. (let e = terms n in let y = r.last n in omega arith);
        used = λ n t h. inl (let e = terms n in omega arith);
      };
      wants = λ n h. (
        (
          s.live ∙ l,
          ⊎_elim (λ (e : v.number ≡ number_taken n). inl (hand ∙ e))
              (λ (e : (t : ℕ) × (v.number ≡ number_learnt n t)). inr (e.0, hand ∙ e.1)) h.1,
        ),
        owner n,
      );
    }

    loose_stays : (n : ℕ) → n ≢ v.caller.number → IsLoose z r.memory r.owners me n → IsLoose z m' o' me n
    loose_stays n ne y = record { low = y.low; owner = owner n ∙ y.owner; bit = bit_is n ∙ y.bit; mark = d.marks n ne ∙ y.mark }

    next_stays : (n : ℕ) → n ≢ v.caller.number → IsUndrawn z r.memory r.owners me n → IsUndrawn z m' o' me n
    next_stays n ne y = record { loose = loose_stays n ne y.loose; fresh = fresh_on n y.fresh }

    same_all : all_gathered p ≡ all_gathered v
    same_all = λ j. s.gathered j ++ brought (s.met j)

    hand_stays : (x : Number) → ((n : ℕ) → HasNumberIn n x → n ≢ v.caller.number) → HasNumberInHand z r.history r.memory r.machine r.owners me v x
        → HasNumberInHand z (r.history ++ es) m' (moved_by r.machine es) o' me p x
    hand_stays no_number ne y = tt
    hand_stays (number_taken n) ne y = next_stays n (ne n refl) y
    hand_stays (number_learnt n x) ne y = (next_stays n (ne n refl) y.0, y.1 ∙ sym (terms n))
    hand_stays (number_drawn c) ne y = record {
      loose = loose_stays c.number (ne c.number refl) y.loose;
      term = y.term ∙ sym (terms c.number);
      drawn = still c y.drawn;
      later = y.later;
      seated = d.callers.seat c ∙ y.seated;
      apart = λ e. y.apart (e ∙ s.caller);
      ungathered = λ g i. y.ungathered g (subst (In g) same_all i);
      silent = silent_on (limit_of z) r.history v.caller r.machine es d.allowed c y.apart y.silent;
    }
    hand_stays (number_left n) ne y = (
      next_stays n (ne n refl) y.0,
      ⊎_elim (λ (e : r.memory.draw ≡ most_draws). inl (d.callers.draw ∙ e)) (λ (q : (g : Gathered) × In g (all_gathered v) × (g.caller.number ≡ n)).
          inr (q.0, subst (In q.0) (sym same_all) q.1, q.2)) y.1,
    )
    hand_stays (number_joined c) ne y = record {
      loose = loose_stays c.number (ne c.number refl) y.loose;
      term = y.term ∙ sym (terms c.number);
      left = y.left;
      gathered = (y.gathered.0, subst (In y.gathered.0) (sym same_all) y.gathered.1, y.gathered.2);
    }

    pub number_stays : KeepsHand z (r.history ++ es) v m' (moved_by r.machine es) o' me p
    number_stays = record {
      number = subst (HasNumberInHand z (r.history ++ es) m' (moved_by r.machine es) o' me p) (sym hand) (hand_stays v.number mine.not_own mine.number);
      not_own = λ n i e. mine.not_own n (subst (HasNumberIn n) hand i) (e ∙ ap (λ (x : Caller). x.number) s.caller);
      stays = λ c e. hand ∙ e;
    }
