use Rattle.fm_bench_shared.proofs.ranges.mismatches.Given as goal
use Rattle.fm_bench_shared.specs.Ready.{AreReady}

abbrev pub invariant-loop : goal.invariant-loop
invariant-loop g l = (AreReady (g.M.Memory.view l.m) l.first l.second)
