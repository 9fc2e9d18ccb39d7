use Rattle.fm_base.proofs.Wholeness.{whole_always}
use Rattle.fm_base.proofs.laws.stays_whole.Goals as goal

pub returns : goal.returns
returns c = whole_always
