use Rattle.fm_script_report.proofs.Living.{living_fit}
use Rattle.fm_script_report.proofs.laws.living_arenas_fit.Goals as goal

pub returns : goal.returns
returns c = living_fit
