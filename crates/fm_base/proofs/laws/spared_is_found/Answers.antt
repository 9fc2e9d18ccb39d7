use Rattle.fm_base.proofs.Untouched.{spared_found}
use Rattle.fm_base.proofs.laws.spared_is_found.Goals as goal

pub returns : goal.returns
returns c = spared_found
