-- What the owner knows in the end says what became of the jobs.
use Rattle.std.{proofs.{Common.{◌≡◌, ◌≤◌, ℕ, List, [], ◌∷◌, length, refl, ap, arith}, lemmas.List.Sums.{sum_by-cons}}, specs.Prelude.{sum_by}}
use Rattle.fm_workers_queue.specs.{declared.account.Account.{Account}, Rule.{AddsUp}, Turns.{IsSettled}}

-- Where each job weighs 1, they weigh as many as they are.
length-jobs : {T : Type 0} (jobs : List T) → sum_by (λ x. 1) jobs ≡ length jobs
length-jobs [] = refl
length-jobs {T} (x ∷ xs) = let rest = length-jobs xs in omega (arith, sum_by-cons (λ (n : T). 1) x xs)

no_more : {T : Type 0} (jobs : List T) → length jobs ≡ 0 → jobs ≡ []
no_more [] none = refl
no_more (x ∷ xs) none = absurd (omega arith)

pub settles : {T : Type 0} (v : Account T) (items : List T) → AddsUp v items → IsSettled v
settles {T} v items sums = record { at_most = at_most; all = all }
  where
    at_most : (weight : T → ℕ) → sum_by weight v.taken ≤ sum_by weight v.pushed
    at_most weight = let j = sums weight in omega arith

    all : length v.taken ≡ length v.pushed → (weight : T → ℕ) → sum_by weight v.taken ≡ sum_by weight v.pushed
    all as_many weight =
        let count = sums (λ x. 1) in
        let p = length-jobs v.pushed in
        let t = length-jobs v.taken in
        let i = length-jobs items in
        let j = sums weight in
        let none = ap (sum_by weight) (no_more items (omega arith)) in omega arith
