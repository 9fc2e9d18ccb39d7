use Rattle.fm_base_laws.proofs.Own.{own_decide}
use Rattle.fm_base_laws.proofs.laws.own_decide.Goals as goal

pub returns : goal.returns
returns c = own_decide
