use Rattle.fm_bench.proofs.crews.draws.Given as goal
use Rattle.fm_bench.specs.Ready.{IsFree}

abbrev pub invariant-loop-turn : goal.invariant-loop-turn
invariant-loop-turn g l = IsFree l.pool l.pass
