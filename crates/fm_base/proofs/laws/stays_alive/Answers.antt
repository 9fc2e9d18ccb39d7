use Rattle.fm_base.proofs.Untouched.{alive}
use Rattle.fm_base.proofs.laws.stays_alive.Goals as goal

pub returns : goal.returns
returns c = alive
