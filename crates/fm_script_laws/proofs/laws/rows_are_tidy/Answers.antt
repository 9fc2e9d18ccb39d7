use Rattle.fm_script_laws.proofs.Passes.{lines_tidy}
use Rattle.fm_script_laws.proofs.laws.rows_are_tidy.Goals as goal

pub returns : goal.returns
returns c = lines_tidy
