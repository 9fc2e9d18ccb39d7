use Rattle.std.proofs.Common.{length}
use Rattle.fm_c_calls.proofs.spot.+reach_all.Given as goal

abbrev pub decreases-reach_all : goal.decreases-reach_all
decreases-reach_all l = length l.strides.now
