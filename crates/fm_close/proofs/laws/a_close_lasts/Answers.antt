use Rattle.fm_close.proofs.Lasting.{lasts}
use Rattle.fm_close.proofs.laws.a_close_lasts.Goals as goal

pub returns : goal.returns
returns c = lasts
