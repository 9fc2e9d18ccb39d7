use Rattle.fm_script.proofs.Alive.{alive_fit}
use Rattle.fm_script.proofs.laws.alive_arenas_fit.Goals as goal

pub returns : goal.returns
returns c = alive_fit
