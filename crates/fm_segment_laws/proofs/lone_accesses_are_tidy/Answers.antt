use Rattle.fm_segment_laws.proofs.Tidying.{alone_tidy}
use Rattle.fm_segment_laws.proofs.lone_accesses_are_tidy.Goals as goal

pub returns : goal.returns
returns c = alone_tidy
