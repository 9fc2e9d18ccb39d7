-- Answers joined from the last share to the first.
use Rattle.std.proofs.Common.{◌≡◌, ℕ, ◌+◌, ◌-◌, ◌*◌, ◌/◌, ◌≤◌, ◌^◌, List, [], ◌∷◌, ◌++◌, length, Some, None, sym, ap, ◌∙◌, subst, arith, Result, Ok, Err, IfOk}
use Rattle.std.proofs.Math.Nat.{mul-le-mul_right}
use Rattle.fm_base.specs.{declared.{caller.Caller.{Caller}, refusal.Refusal.{Refusal}}, Calls.{Entry}}
use Rattle.fm_segment.specs.Region.{Region}
use Rattle.fm_records_query.specs.Plan.{IsPlan, Plan}
use Rattle.fm_records.{specs.{declared.found.Found.{Found}, Few.{AreFew}, Joined.{joined}, Query.{DoesQuery}}, proofs.Few.{answers_few, few_join, nothing_few}}
use Rattle.fm_records.proofs.Recording.{answer-none}
use Rattle.fm_workers_shares.specs.{Joining.{CanJoinAll, CanJoinOne, CanJoinSlot, IsAnswered, JoinsSlot, joined_all, joined_slot}, Placing.{Slot}}
use Rattle.fm_workers_shares.{specs.Shares.{share_of, start_of}, proofs.{Numbers.{run_ends, run_fits, start_order, start_within}, Places.{AreAll}}}

-- ---- one after the other

module _ (p : Plan) where
  pub can_one : (next gone : List Slot) (slot : Slot) → CanJoinAll p (next ++ slot ∷ gone) → CanJoinOne slot (joined_all p gone)
  can_one [] gone slot h = h.0
  can_one (x ∷ next) gone slot h = can_one next gone slot h.1

  pub can_slot : (slot : Slot) (gone : List Slot) (behind : Result (List Found) Refusal) → CanJoinOne slot (joined_all p gone)
      → IfOk behind (λ a. a ≡ joined_all p gone) → CanJoinSlot slot behind
  can_slot slot gone behind can is = record { answered = answered slot can; can = others behind is }
    where
      answered : (one : Slot) → CanJoinOne one (joined_all p gone) → IsAnswered one
      answered (Some x) h = tt
      answered None h = h

      others : (r : Result (List Found) Refusal) → IfOk r (λ a. a ≡ joined_all p gone) → IfOk r (CanJoinOne slot)
      others (Ok a) e = subst (CanJoinOne slot) (sym e) can
      others (Err r) e = tt

  pub joins_more : (slot : Slot) (gone : List Slot) (behind r : Result (List Found) Refusal) → IfOk behind (λ a. a ≡ joined_all p gone)
      → JoinsSlot slot behind r → IfOk r (λ a. a ≡ joined_all p (slot ∷ gone))
  joins_more slot gone behind (Ok a) is j =
      let rest : j.0 ≡ joined_all p gone = subst (λ (r : Result (List Found) Refusal). IfOk r (λ a. a ≡ joined_all p gone)) j.1 is in
      j.2 ∙ ap (joined_slot slot) rest
  joins_more slot gone behind (Err r) is j = tt

-- ---- all can be joined

pub start_later : (count each k l : ℕ) → k ≤ l → start_of count each k ≤ start_of count each l
start_later count each k l order = let times = mul-le-mul_right each order in omega (arith, times)

-- Two runs side by side.
side_by_side : (from mid to size : ℕ) → from ≤ mid → mid ≤ to → (mid - from) * size + (to - mid) * size ≡ (to - from) * size
side_by_side from mid to size first later =
    let a = run_ends from mid size first in
    let b = run_ends mid to size later in
    let c = run_ends from to size (omega (arith, first, later)) in
    omega (arith, a, b, c)

module _ (p : Plan) (s : Region) (each : ℕ) where
  -- somebody's entries are the query over the share of this number, and it comes to this
  abbrev pub IsFoundAt : ℕ → List Found → Type 0
  IsFoundAt k x = (c : Caller) × (own : List Entry) × DoesQuery c p (share_of p s each k) (Ok x) own

  pub record AllJoin (n : ℕ) (slots : List Slot) : Type 0 where
    pub can : CanJoinAll p slots
    pub few : AreFew n p (joined_all p slots)

  pub all_join : (k last : ℕ) (slots : List Slot) → IsPlan p → s.size ≤ 2 ^ 40 → k + length slots ≡ last → AreAll IsFoundAt k slots
      → AllJoin ((start_of (s.size / p.size) each last - start_of (s.size / p.size) each k) * p.size) slots
  all_join k last [] plan small ends h =
      let here : k ≡ last = omega (arith, ends) in
      let none : 0 ≡ (start_of (s.size / p.size) each last - start_of (s.size / p.size) each k) * p.size =
      (let same = ap (start_of (s.size / p.size) each) here in
      let none : start_of (s.size / p.size) each last - start_of (s.size / p.size) each k ≡ 0 = omega (arith, same) in
      let bytes = ap (λ (n : ℕ). n * p.size) none in
      omega (arith, bytes)) in
      record { can = tt; few = subst (λ n. AreFew n p (joined_all p [])) none (subst (AreFew 0 p) (sym (answer-none p)) (nothing_few p.items)) }
  all_join k last (u ∷ us) plan small ends h =
      let rest = all_join (k + 1) last us plan small (omega (arith, ends)) h.1 in
      let one = answers_few h.0.2.0 p (share_of p s each k) h.0.0 h.0.2.1 plan h.0.2.2 in
      let order = start_order (s.size / p.size) each k in
      let later = start_later (s.size / p.size) each (k + 1) last (omega (arith, ends)) in
      let all = side_by_side (start_of (s.size / p.size) each k) (start_of (s.size / p.size) each (k + 1)) (start_of (s.size / p.size) each last) p.size
      order later in
      let fits = run_fits (start_of (s.size / p.size) each k) (start_of (s.size / p.size) each last) p.size s.size (omega (arith, order, later))
      (start_within (s.size / p.size) each last) in
      let joins = few_join p (share_of p s each k).size ((start_of (s.size / p.size) each last - start_of (s.size / p.size) each (k + 1)) * p.size) h.0.0
      (joined_all p us) one rest.few (omega (arith, all, fits, small)) in
      record {
        can = (subst (λ (slot : Slot). CanJoinOne slot (joined_all p us)) (sym h.0.1) joins.can, rest.can);
        few = subst (λ (slot : Slot). AreFew ((start_of (s.size / p.size) each last - start_of (s.size / p.size) each k) * p.size) p
            (joined_slot slot (joined_all p us))) (sym h.0.1) (subst (λ n. AreFew n p (joined h.0.0 (joined_all p us))) all joins.few);
      }
