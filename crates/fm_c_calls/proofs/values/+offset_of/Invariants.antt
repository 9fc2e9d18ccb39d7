use Rattle.std.proofs.Common.{length}
use Rattle.fm_c_calls.proofs.values.+offset_of.Given as goal

abbrev pub decreases-offset_of : goal.decreases-offset_of
decreases-offset_of l = length l.dims.now
