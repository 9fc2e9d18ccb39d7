use Rattle.fm_bench.specs.Ready.{IsFree}
use Rattle.fm_bench.proofs.opens.opens.Given as goal

abbrev pub invariant-loop : goal.invariant-loop
invariant-loop g l = IsFree l.pool l.pass
