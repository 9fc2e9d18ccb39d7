-- What the giver knows in the end says what became of the jobs.
use Rattle.std.{proofs.Common.{◌≡◌, ◌<◌, ◌≤◌, ◌==◌, ℕ, List, ap, arith, cond}, specs.Prelude.{sum_by}}
use Rattle.fm_workers_jobs.specs.{declared.{account.Account.{Account}, item.Item.{Item}}, Rule.{AddsUp}, Turns.{IsSettled}}

pub settles : (v : Account) (items : List Item) → AddsUp v items → IsSettled v
settles v items sums = record {
  none_twice = λ job. at_most (λ x. cond (x == job) 1 0);
  at_most = at_most;
  each_once = λ ended job. all ended (λ x. cond (x == job) 1 0);
  all = all;
}
  where
    at_most : (weight : ℕ → ℕ) → sum_by weight v.taken ≤ sum_by weight v.pushed
    at_most weight = let j = sums.jobs weight in omega arith

    all : 0 < v.ended → (weight : ℕ → ℕ) → sum_by weight v.taken ≡ sum_by weight v.pushed
    all ended weight = let j = sums.jobs weight in let none = ap (sum_by weight) (sums.done ended) in omega arith
