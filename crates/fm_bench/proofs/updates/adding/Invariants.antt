use Rattle.fm_bench.proofs.updates.adding.Given as goal
use Rattle.fm_gate.specs.Needs.{CanReach}

abbrev pub invariant-loop-turn : goal.invariant-loop-turn
invariant-loop-turn l = CanReach l.fn.pool l.pass 0
