use Rattle.fm_workers_jobs.specs.{Accounts.{after_stops}, Turns.{account_of, HasAccount}}
use Rattle.fm_workers_jobs.proofs.jobs.Jobs.push_stops.Given as goal

abbrev pub invariant-loop : goal.invariant-loop
invariant-loop g l = HasAccount l.self l.turn (after_stops (account_of l.fn.turn) l.counter)
