use Rattle.fm_bench.proofs.updates.patching.Given as goal
use Rattle.fm_gate.specs.Needs.{CanReach}

abbrev pub invariant-loop-turn : goal.invariant-loop-turn
invariant-loop-turn g l = CanReach l.fn.pool l.pass 0
