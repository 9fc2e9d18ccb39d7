use Rattle.fm_base.proofs.Untouched.{spared}
use Rattle.fm_base.proofs.laws.spared_stays.Goals as goal

pub returns : goal.returns
returns c = spared
