use Rattle.std.proofs.Common.{◌≡◌}
use Rattle.fm_workers_queue.specs.Turns.{account_of, HasAccount}
use Rattle.fm_workers_queue.proofs.queue.Queue.push.Given as goal

abbrev pub invariant-loop : goal.invariant-loop
invariant-loop g l = HasAccount l.self l.turn (account_of l.fn.turn) × (l.left ≡ l.fn.job)
