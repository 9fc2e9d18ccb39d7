use Rattle.fm_base.proofs.Tidiness.{zero_past}
use Rattle.fm_base.proofs.laws.zero_past_given.Goals as goal

pub returns : goal.returns
returns c = zero_past
