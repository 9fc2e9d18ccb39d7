use Rattle.std.proofs.Common.{◌-◌}
use Rattle.fm_visit.proofs.Putting.{PutUpTo}
use Rattle.fm_visit.proofs.bytes.put_all.Given as goal

abbrev pub invariant-loop-at : goal.invariant-loop-at
invariant-loop-at g l = PutUpTo (g.M.Memory.view l.fn.m) (g.M.Memory.view l.m) l.arena l.place l.bytes l.at

abbrev pub decreases-loop-at : goal.decreases-loop-at
decreases-loop-at g l = l.end - l.at
