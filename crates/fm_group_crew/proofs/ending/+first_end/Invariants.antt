use Rattle.std.proofs.Common.{length}
use Rattle.fm_group_crew.proofs.ending.+first_end.Given as goal

abbrev pub decreases-first_end : goal.decreases-first_end
decreases-first_end l = length l.shares.now
