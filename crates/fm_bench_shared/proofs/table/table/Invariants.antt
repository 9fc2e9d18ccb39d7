use Rattle.fm_bench_shared.proofs.table.table.Given as goal
use Rattle.fm_bench_shared.specs.Ready.{CanAccess}

abbrev pub invariant-loop-cell : goal.invariant-loop-cell
invariant-loop-cell g l = (CanAccess (g.M.Memory.view l.m) l.table)
