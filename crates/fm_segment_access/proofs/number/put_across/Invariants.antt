use Rattle.std.proofs.Common.{◌-◌}
use Rattle.fm_base_bytes.specs.Bytes.{bytes_of}
use Rattle.fm_segment_access.{specs.Ranges.{PutsOn}, proofs.Putting.{IsPutting}}
use Rattle.fm_segment_access.proofs.number.put_across.Given as goal

abbrev pub invariant-loop-at : goal.invariant-loop-at
invariant-loop-at g l =
    IsPutting PutsOn (g.M.Memory.view l.fn.m) (g.M.Memory.view l.m) l.arena l.place l.end (bytes_of l.width l.number) l.at

abbrev pub decreases-loop-at : goal.decreases-loop-at
decreases-loop-at g l = l.end - l.at
