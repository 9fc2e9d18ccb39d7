use Rattle.fm_bench.proofs.gates.visits.Given as goal
use Rattle.fm_bench.specs.Ready.{CanRead}

abbrev pub invariant-loop-turn : goal.invariant-loop-turn
invariant-loop-turn l = CanRead l.fn.pool l.pass 65536 l.fn.arena
