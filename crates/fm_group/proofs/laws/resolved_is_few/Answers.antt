use Rattle.fm_group.proofs.Ordinals.{resolved_few}
use Rattle.fm_group.proofs.laws.resolved_is_few.Goals as goal

pub returns : goal.returns
returns c = resolved_few
