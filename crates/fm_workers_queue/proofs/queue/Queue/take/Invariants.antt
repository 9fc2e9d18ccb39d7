use Rattle.fm_workers_queue.specs.Turns.{account_of, HasAccount}
use Rattle.fm_workers_queue.proofs.queue.Queue.take.Given as goal

abbrev pub invariant-loop : goal.invariant-loop
invariant-loop g l = HasAccount l.self l.turn (account_of l.fn.turn)
