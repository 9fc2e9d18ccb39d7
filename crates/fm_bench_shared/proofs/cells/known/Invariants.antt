use Rattle.fm_bench_shared.proofs.cells.known.Given as goal
use Rattle.fm_bench_shared.specs.Ready.{CanAccess}

abbrev pub invariant-loop-turn : goal.invariant-loop-turn
invariant-loop-turn g l = (CanAccess (g.M.Memory.view l.m) l.fn.cells)
