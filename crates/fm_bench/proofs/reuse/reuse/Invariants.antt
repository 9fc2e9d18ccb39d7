use Rattle.fm_bench.proofs.reuse.reuse.Given as goal
use Rattle.fm_bench.specs.Ready.{IsFree}

abbrev pub invariant-loop : goal.invariant-loop
invariant-loop g l = IsFree l.pool l.pass
