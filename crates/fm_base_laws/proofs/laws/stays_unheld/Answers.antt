use Rattle.fm_base_laws.proofs.Counts.{stays_unheld}
use Rattle.fm_base_laws.proofs.laws.stays_unheld.Goals as goal

pub returns : goal.returns
returns c = stays_unheld
