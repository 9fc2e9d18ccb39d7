use Rattle.fm_bench_shared.proofs.ranges.copies.Given as goal
use Rattle.fm_bench_shared.specs.Ready.{AreReady}

abbrev pub invariant-loop-turn : goal.invariant-loop-turn
invariant-loop-turn g l = (AreReady (g.M.Memory.view l.m) l.source l.target)
