use Rattle.std.proofs.Common.{◌-◌}
use Rattle.fm_segment_access.{specs.Ranges.{PutsOn}, proofs.Putting.{IsPutting}}
use Rattle.fm_text.specs.Texts.{zero_ended}
use Rattle.fm_text.proofs.zero_ended.put_zero_ended.Given as goal

abbrev pub invariant-loop-at : goal.invariant-loop-at
invariant-loop-at g l = IsPutting PutsOn (g.M.Memory.view l.fn.m) (g.M.Memory.view l.m) l.arena l.place l.end (zero_ended l.bytes) l.at

abbrev pub decreases-loop-at : goal.decreases-loop-at
decreases-loop-at g l = l.end - l.at
