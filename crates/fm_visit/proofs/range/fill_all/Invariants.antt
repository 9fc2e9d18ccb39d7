use Rattle.std.proofs.Common.{◌-◌, replicate}
use Rattle.fm_visit.proofs.Putting.{PutUpTo}
use Rattle.fm_visit.proofs.range.fill_all.Given as goal

abbrev pub invariant-loop-at : goal.invariant-loop-at
invariant-loop-at g l = PutUpTo (g.M.Memory.view l.fn.m) (g.M.Memory.view l.m) l.arena l.place (replicate l.size l.byte) l.at

abbrev pub decreases-loop-at : goal.decreases-loop-at
decreases-loop-at g l = l.end - l.at
