use Rattle.std.proofs.Common.{length}
use Rattle.fm_records.proofs.querying.+has_no_values.Given as goal

abbrev pub decreases-has_no_values : goal.decreases-has_no_values
decreases-has_no_values l = length l.dims.now
