use Rattle.fm_visit.proofs.Pairs.{IsCopying}
use Rattle.fm_visit.proofs.sides.copy_all.Given as goal

abbrev pub invariant-loop-left : goal.invariant-loop-left
invariant-loop-left g l = IsCopying (g.M.Memory.view l.fn.m) (g.M.Memory.view l.m) l.from l.to l.n l.way l.left

abbrev pub decreases-loop-left : goal.decreases-loop-left
decreases-loop-left g l = l.left
