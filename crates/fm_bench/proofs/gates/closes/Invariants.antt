use Rattle.fm_bench.proofs.gates.closes.Given as goal
use Rattle.fm_bench.specs.Ready.{IsFree}

abbrev pub invariant-loop-2 : goal.invariant-loop-2
invariant-loop-2 g l = IsFree l.pool l.pass
