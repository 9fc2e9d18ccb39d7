use Rattle.fm_close.proofs.Together.{together}
use Rattle.fm_close.proofs.laws.closes_last_together.Goals as goal

pub returns : goal.returns
returns c = together
