use Rattle.fm_visit.proofs.Pairs.{IsComparing}
use Rattle.fm_visit.proofs.sides.compare_all.Given as goal

abbrev pub invariant-loop-left : goal.invariant-loop-left
invariant-loop-left g l = IsComparing (g.M.Memory.view l.fn.m) (g.M.Memory.view l.m) l.first l.second l.n l.left

abbrev pub decreases-loop-left : goal.decreases-loop-left
decreases-loop-left g l = l.left
