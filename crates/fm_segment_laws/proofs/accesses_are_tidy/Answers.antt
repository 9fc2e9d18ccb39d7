use Rattle.fm_segment_laws.proofs.Tidying.{tidy}
use Rattle.fm_segment_laws.proofs.accesses_are_tidy.Goals as goal

pub returns : goal.returns
returns c = tidy
