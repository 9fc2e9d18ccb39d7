use Rattle.std.proofs.Common.{◌-◌, ◌≤◌}
use Rattle.fm_workers_jobs.specs.{Accounts.{after_jobs}, Turns.{account_of, HasAccount}}
use Rattle.fm_workers_jobs.proofs.jobs.Jobs.push_jobs.Given as goal

-- A range that ends before it begins has no job.
abbrev pub invariant-loop-job : goal.invariant-loop-job
invariant-loop-job g l =
    HasAccount l.self l.turn (after_jobs (account_of l.fn.turn) l.fn.from l.job) × (l.job - l.fn.from ≤ l.fn.to - l.fn.from)
