use Rattle.fm_script_laws.proofs.Openings.{reports_many}
use Rattle.fm_script_laws.proofs.laws.reports_find_many.Goals as goal

pub returns : goal.returns
returns c = reports_many
