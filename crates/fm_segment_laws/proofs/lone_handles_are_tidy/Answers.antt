use Rattle.fm_segment_laws.proofs.Handling.{lone_handles_tidy}
use Rattle.fm_segment_laws.proofs.lone_handles_are_tidy.Goals as goal

pub returns : goal.returns
returns c = lone_handles_tidy
