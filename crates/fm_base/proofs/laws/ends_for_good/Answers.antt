use Rattle.fm_base.proofs.Growing.{ends}
use Rattle.fm_base.proofs.laws.ends_for_good.Goals as goal

pub returns : goal.returns
returns c = ends
