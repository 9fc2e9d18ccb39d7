use Rattle.fm_base.proofs.Growing.{stays}
use Rattle.fm_base.proofs.laws.stays_for_ever.Goals as goal

pub returns : goal.returns
returns c = stays
