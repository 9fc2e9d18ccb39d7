use Rattle.fm_workers_queue.specs.Turns.{IsOwner}
use Rattle.fm_workers_tests.proofs.queue.push_all.Given as goal

abbrev pub invariant-loop-n : goal.invariant-loop-n
invariant-loop-n g l = IsOwner l.queue l.turn
