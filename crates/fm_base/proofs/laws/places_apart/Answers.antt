use Rattle.fm_base.proofs.Placing.{apart}
use Rattle.fm_base.proofs.laws.places_apart.Goals as goal

pub returns : goal.returns
returns c = apart
