use Rattle.std.proofs.Common.{◌≡◌, length}
use Rattle.fm_workers_queue.specs.Turns.{IsUser}
use Rattle.fm_workers_tests.proofs.queue.count_all.Given as goal

abbrev pub invariant-loop : goal.invariant-loop
invariant-loop g l = IsUser l.queue l.turn × (length l.times ≡ 1000)
