-- An entry's term is below its number's, or a live pass has that caller, or its number is to be returned, or that was its last term.
use Rattle.std.proofs.{Common.{◌≡◌, ◌≢◌, ◌⊎◌, ℕ, ◌/◌, ◌%◌, ◌<◌, true, List, [], sym, ap, ◌∙◌, subst, arith, inl, inr, ⊎_elim}, lemmas.Bool.{cases_lt}}
use Rattle.std.proofs.lemmas.Nat.Bits.{bit_at-lt}
use mathlib.Core.Logic.{dite}
use native.Mathlib.Decide.{ℕ_discrete}
use Rattle.fm_words.specs.declared.shape.Shape.{Shape}
use Rattle.fm_base.specs.{declared.caller.Caller.{Caller}, Calls.{Entry}, Histories.{made_by}}
use Rattle.fm_rule_facts.specs.{Hands.{Number, no_number, number_taken, number_learnt, number_drawn, number_left, number_joined, HasNumberIn}, Views.{View, In}}
use Rattle.fm_rule_facts.{specs.Facts.{WasDrawn, bit_of, next_of, IsSpent, Somewhere, KeepsNumber, HasNumberInHand, Rule}, proofs.Sessions.{caller_is}}
use Rattle.fm_rule_facts.proofs.Callers.{made_in, drawn_or}

-- the caller is a live pass's, or is gathered into one that is to return its number
abbrev pub HasStill : Caller → View → Type 0
HasStill c v = (v.live ≡ true) × ((v.caller ≡ c) ⊎ (v.number ≡ number_joined c))

bit_is_bit : (words : ℕ → ℕ) (k : ℕ) → bit_of words k < 2
bit_is_bit words k = let y = bit_at-lt (words (k / 64)) (k % 64) in y

module _ (z : Shape) (ws : List ℕ) (vs : List View) (r : Rule z ws vs) where
  abbrev Was : Caller → Type 0
  Was c = WasDrawn r.memory.draw r.owners.who r.owners.rank c

  made : (e : Entry) → In e r.history → Was e.caller
  made e i = elim (drawn_or r.memory.draw r.owners.who r.owners.rank e.caller) [
    | yes d ↦ d
    | no n ↦ absurd (made_in e r.history i (r.later e.caller n).calls)
  ]

  -- the entry's caller is the next one of its number, by the term
  module _ (e : Entry) (i : In e r.history) (same : e.caller.term ≡ r.memory.terms e.caller.number) where
    abbrev n : ℕ
    n = e.caller.number

    is_next : next_of r.memory.terms n ≡ e.caller
    is_next = λ j. record { number = n; term = sym same j }

    stale : ¬ (Was (next_of r.memory.terms n)) → ⊥
    stale f = f (subst Was (sym is_next) (made e i))

    in_hand : (v : View) (j : ℕ) (h : Number) → HasNumberIn n h → HasNumberInHand z r.history r.memory r.machine r.owners j v h → h ≡ number_joined e.caller
    in_hand v j no_number k y = absurd k
    in_hand v j (number_taken m) k y = absurd (stale (subst (λ (x : ℕ). ¬ (Was (next_of r.memory.terms x))) (sym k) y.fresh))
    in_hand v j (number_learnt m t) k y = absurd (stale (subst (λ (x : ℕ). ¬ (Was (next_of r.memory.terms x))) (sym k) y.0.fresh))
    in_hand v j (number_drawn c) k y =
        let one : c ≡ e.caller = caller_is c e.caller (sym k) (y.term ∙ (ap r.memory.terms (sym k) ∙ sym same)) in
        absurd (made_in e r.history i (subst (λ (x : Caller). made_by x r.history ≡ []) one y.silent.calls))
    in_hand v j (number_left m) k y = absurd (stale (subst (λ (x : ℕ). ¬ (Was (next_of r.memory.terms x))) (sym k) y.0.fresh))
    in_hand v j (number_joined c) k y = ap number_joined (caller_is c e.caller (sym k) (y.term ∙ (ap r.memory.terms (sym k) ∙ sym same)))

    still : Somewhere vs (r.owners.number n) (HasStill e.caller) ⊎ IsSpent r.memory r.owners n
    still = dite (ℕ_discrete (bit_of r.memory.numbers n) 1)
        (λ one. absurd (stale (r.free_numbers n one).fresh))
        (λ ne.
        let zero : bit_of r.memory.numbers n ≡ 0 = zero_bit (r.memory.numbers) ne in
        ⊎_elim
        (λ (s : Somewhere vs (r.owners.number n) (KeepsNumber n)).
        let x = (r.each (r.owners.number n) s.view s.there).owns s.holds.0 in
        inl (record {
          view = s.view;
          there = s.there;
          holds = (
            s.holds.0,
            ⊎_elim
                (λ (q : s.view.caller.number ≡ n). inl (caller_is s.view.caller e.caller q (x.term ∙ (ap r.memory.terms q ∙ sym same))))
                (λ (q : HasNumberIn n s.view.number). inr (in_hand s.view (r.owners.number n) s.view.number q x.number))
                s.holds.1,
          );
        }))
        inr
        (r.numbers n (r.terms e.caller (made e i)).0 zero))
      where
        zero_bit : (words : ℕ → ℕ) → bit_of words n ≢ 1 → bit_of words n ≡ 0
        zero_bit words ne = let y = bit_is_bit words n in let x : ℕ = bit_of words n in let m : x ≢ 1 = ne in omega arith

  pub entry_terms : (e : Entry) → In e r.history → (e.caller.term < r.memory.terms e.caller.number)
      ⊎ ((e.caller.term ≡ r.memory.terms e.caller.number)
      × (Somewhere vs (r.owners.number e.caller.number) (HasStill e.caller) ⊎ IsSpent r.memory r.owners e.caller.number))
  entry_terms e i = elim (cases_lt e.caller.term (r.memory.terms e.caller.number)) [
    | inl l ↦ inl l
    | inr l ↦ (let a = (r.terms e.caller (made e i)).1 in
        let same : e.caller.term ≡ r.memory.terms e.caller.number = omega arith in inr (same, still e i same))
  ]
