use Rattle.fm_group.specs.Asked.{IsReady}
use Rattle.fm_bench_shared.proofs.counts.count_all.Given as goal

abbrev pub invariant-loop-ordinal : goal.invariant-loop-ordinal
invariant-loop-ordinal g l = IsReady (g.M.Memory.view l.m) l.table
