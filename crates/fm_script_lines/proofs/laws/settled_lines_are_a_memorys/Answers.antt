use Rattle.fm_script_lines.proofs.Settled.{settled}
use Rattle.fm_script_lines.proofs.laws.settled_lines_are_a_memorys.Goals as goal

pub returns : goal.returns
returns c = settled
