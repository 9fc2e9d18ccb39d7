use Rattle.std.proofs.Common.{length}
use Rattle.fm_c_calls.proofs.spot.+find_out.Given as goal

abbrev pub decreases-find_out : goal.decreases-find_out
decreases-find_out l = length l.strides.now
