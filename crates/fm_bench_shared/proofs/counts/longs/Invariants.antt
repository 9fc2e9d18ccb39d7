use Rattle.fm_bench_shared.specs.Ready.{CanAccess}
use Rattle.fm_bench_shared.proofs.counts.longs.Given as goal

abbrev pub invariant-loop-k : goal.invariant-loop-k
invariant-loop-k g l = CanAccess (g.M.Memory.view l.m) l.longs
