use Rattle.fm_script_laws.proofs.Parting.{in_parts}
use Rattle.fm_script_laws.proofs.laws.parts_are_tidy.Goals as goal

pub returns : goal.returns
returns c = in_parts
