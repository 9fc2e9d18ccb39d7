use Rattle.fm_base.proofs.Growing.{shuts}
use Rattle.fm_base.proofs.laws.shuts_for_good.Goals as goal

pub returns : goal.returns
returns c = shuts
