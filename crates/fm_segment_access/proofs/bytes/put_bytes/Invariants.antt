use Rattle.std.proofs.Common.{◌-◌}
use Rattle.fm_segment_access.{specs.Runs.{PutsMore}, proofs.Putting.{IsPutting}}
use Rattle.fm_segment_access.proofs.bytes.put_bytes.Given as goal

abbrev pub invariant-loop-at : goal.invariant-loop-at
invariant-loop-at g l = IsPutting PutsMore (g.M.Memory.view l.fn.m) (g.M.Memory.view l.m) l.arena l.place l.end l.bytes l.at

abbrev pub decreases-loop-at : goal.decreases-loop-at
decreases-loop-at g l = l.end - l.at
