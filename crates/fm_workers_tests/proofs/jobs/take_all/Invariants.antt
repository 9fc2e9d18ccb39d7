use Rattle.fm_workers_jobs.specs.Turns.{CanTake}
use Rattle.fm_workers_tests.proofs.jobs.take_all.Given as goal

abbrev pub invariant-loop : goal.invariant-loop
invariant-loop g l = CanTake l.jobs l.turn
