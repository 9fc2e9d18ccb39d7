use Rattle.fm_bench.specs.Ready.{CanRead, IsFree}
use Rattle.fm_bench.proofs.opens.gives.Given as goal

abbrev pub invariant-loop : goal.invariant-loop
invariant-loop g l = IsFree l.pool l.pass

abbrev pub invariant-loop-2 : goal.invariant-loop-2
invariant-loop-2 g l = CanRead l.pool l.pass 8 l.arena
