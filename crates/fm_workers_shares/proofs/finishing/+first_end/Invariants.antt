use Rattle.std.proofs.Common.{length}
use Rattle.fm_workers_shares.proofs.finishing.+first_end.Given as goal

abbrev pub decreases-first_end : goal.decreases-first_end
decreases-first_end g l = length l.takers.now
