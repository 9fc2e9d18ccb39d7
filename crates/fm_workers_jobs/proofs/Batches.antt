-- Several jobs pushed in a row.
use Rattle.std.{proofs.Common.{◌≡◌, ◌+◌, ◌-◌, ◌≤◌, ℕ, zero, suc, [], ◌∷◌, ◌++◌, length, ap, sym, ◌∙◌, append_assoc, arith}, specs.List.{range_with_len}}
use Rattle.std.proofs.lemmas.List.{length-append, FromFn.{length-range_with_len}}
use Rattle.fm_workers_jobs.specs.{declared.{account.Account.{Account}, item.Item.TheVariants.{Job}}, Accounts.{after_push, after_jobs}}

-- A row of numbers with one more.
pub range_with_len-more : (from count last : ℕ) → from + count ≡ last → range_with_len from (suc count) ≡ range_with_len from count ++ last ∷ []
range_with_len-more from zero last e = ap (λ n. n ∷ []) (omega arith)
range_with_len-more from (suc count) last e = ap (λ ns. from ∷ ns) (range_with_len-more (from + 1) count last (omega arith))

-- One job more.
pub after_jobs-more : (v : Account) (from job : ℕ) → from ≤ job → after_push (after_jobs v from job) (Job job) ≡ after_jobs v from (job + 1)
after_jobs-more v from job le =
    let next : from + (job - from) ≡ job = omega arith in
    let one_more : suc (job - from) ≡ job + 1 - from = omega arith in
    ap (λ xs. record v { pushed = xs })
    (append_assoc v.pushed (range_with_len from (job - from)) (job ∷ [])
    ∙ ap (λ xs. v.pushed ++ xs) (sym (range_with_len-more from (job - from) job next) ∙ ap (range_with_len from) one_more))

-- How many were pushed.
pub length-after_jobs : (v : Account) (from job : ℕ) → length (after_jobs v from job).pushed ≡ length v.pushed + (job - from)
length-after_jobs v from job =
    length-append v.pushed (range_with_len from (job - from)) ∙ ap (λ n. length v.pushed + n) (length-range_with_len from (job - from))
