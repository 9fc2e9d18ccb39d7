use Rattle.fm_bench.proofs.updates.swapping.Given as goal
use Rattle.fm_gate.specs.Needs.{CanReach}

abbrev pub invariant-loop : goal.invariant-loop
invariant-loop l = CanReach l.fn.pool l.pass 0
