-- What answers weigh together, at their shares' places as in the order in which they came.
use Rattle.std.proofs.Common.{◌≡◌, ◌≢◌, ℕ, zero, suc, ◌+◌, ◌<◌, ◌≤◌, Bool, true, false, List, [], ◌∷◌, get_or, Some, None, refl, sym, ap, ◌∙◌, arith, nat_lt}
use Rattle.std.{specs.{Prelude.{sum_by}, List.{range_with_len}}, proofs.lemmas.{Bool.Decides.{nat_tests}, List.{get_or-set_other}}}
use Rattle.std.proofs.lemmas.List.Sums.{sum_by-cons, sum_by-set}
use Rattle.fm_records.specs.declared.found.Found.{Found}
use Rattle.fm_workers_jobs.specs.Turns.{times}
use Rattle.fm_workers_shares.specs.{declared.answers.Done.{Done}, Batches.{nones}, Placing.{Slot, placed}, Taking.{jobs_of}}
use Rattle.fm_workers_shares.proofs.{Once.{range_above, range_once, times-cons, times-other, times-same}, Places.{length-nones, length-placed}}

-- ---- places with no answer

none_first : (n k : ℕ) → get_or (nones n) k None ≡ None
none_first zero k = refl
none_first (suc n) zero = refl
none_first (suc n) (suc k) = none_first n k

-- Where no answer has a number, none stands at its place.
none_stands : (n k : ℕ) (ds : List Done) → times k (jobs_of ds) ≡ 0 → get_or (placed (nones n) ds) k None ≡ None
none_stands n k [] none = none_first n k
none_stands n k (d ∷ ds) none =
    let other : k ≢ d.job = λ e. let one = times-same k d.job (jobs_of ds) (sym e) in omega (arith, one, none) in
    let rest : times k (jobs_of ds) ≡ 0 = (let one = times-other k d.job (jobs_of ds) (λ e. other (sym e)) in omega (arith, one, none)) in
    get_or-set_other (placed (nones n) ds) d.job k (Some d.answer) None other ∙ none_stands n k ds rest

module _ (weight : List Found → ℕ) where
  -- no answer weighs nothing
  abbrev pub slot_weight : Slot → ℕ
  slot_weight (Some x) = weight x
  slot_weight None = 0

  nones_weigh : (n : ℕ) → sum_by slot_weight (nones n) ≡ 0
  nones_weigh zero = refl
  nones_weigh (suc n) = let all = sum_by-cons slot_weight None (nones n) in let rest = nones_weigh n in omega (arith, all, rest)

  -- An answer more weighs as much more at its place.
  one_weighs : (n : ℕ) (d : Done) (ds : List Done) → d.job < n → times d.job (jobs_of ds) ≡ 0
      → sum_by slot_weight (placed (nones n) (d ∷ ds)) ≡ sum_by slot_weight (placed (nones n) ds) + weight d.answer
  one_weighs n d ds below none =
      let long = length-placed (nones n) ds ∙ length-nones n in
      let more = sum_by-set slot_weight (placed (nones n) ds) d.job (Some d.answer) None (omega (arith, long, below)) in
      let nothing : slot_weight (get_or (placed (nones n) ds) d.job None) ≡ 0 = ap slot_weight (none_stands n d.job ds none) in
      omega (arith, more, nothing)

  -- Answers of shares of which none comes twice weigh as much at their places.
  pub placed_weigh : (n : ℕ) (ds : List Done) → ((k : ℕ) → times k (jobs_of ds) ≤ times k (range_with_len 0 n))
      → sum_by slot_weight (placed (nones n) ds) ≡ sum_by (λ (d : Done). weight d.answer) ds
  placed_weigh n [] most = nones_weigh n
  placed_weigh n (d ∷ ds) most =
      let mine = times-same d.job d.job (jobs_of ds) refl in
      let here = most d.job in
      let below : d.job < n = inside n d.job (omega (arith, mine, here)) in
      let once = range_once 0 n d.job (omega arith) (omega (arith, below)) in
      let one = one_weighs n d ds below (omega (arith, mine, here, once)) in
      let rest = placed_weigh n ds (λ k. fewer k) in
      let all = sum_by-cons (λ (x : Done). weight x.answer) d ds in
      omega (arith, one, rest, all)
    where
      inside : (m k : ℕ) → 0 < times k (range_with_len 0 m) → k < m
      inside m k some =
          let P : Bool → Type 0 = λ b. nat_lt k m ≡ b → k < m in
          let go : (b : Bool) → P b = λ b. elim b as P [
            | true ↦ (λ e. grind (arith, nat_tests))
            | false ↦ (λ e.
                let above : m ≤ k = grind (arith, nat_tests) in
                let none = range_above 0 m k (omega (arith, above)) in
                absurd (omega (arith, none, some)))
          ] in
          go (nat_lt k m) refl

      fewer : (k : ℕ) → times k (jobs_of ds) ≤ times k (range_with_len 0 n)
      fewer k = let all = times-cons k d.job (jobs_of ds) in let here = most k in omega (arith, all, here)
