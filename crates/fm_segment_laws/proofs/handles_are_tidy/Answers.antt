use Rattle.fm_segment_laws.proofs.Handling.{handles_tidy}
use Rattle.fm_segment_laws.proofs.handles_are_tidy.Goals as goal

pub returns : goal.returns
returns c = handles_tidy
