use Rattle.fm_script_laws.proofs.Passes.{line_tidy}
use Rattle.fm_script_laws.proofs.laws.lines_are_tidy.Goals as goal

pub returns : goal.returns
returns c = line_tidy
