use Rattle.fm_bench.specs.Ready.{IsFree}
use Rattle.fm_bench.proofs.reuse.use_often.Given as goal

abbrev pub invariant-loop : goal.invariant-loop
invariant-loop g l = IsFree l.fn.pool l.worker.pass
