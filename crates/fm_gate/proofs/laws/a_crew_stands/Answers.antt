use Rattle.fm_gate.proofs.Crews.{stands}
use Rattle.fm_gate.proofs.laws.a_crew_stands.Goals as goal

pub returns : goal.returns
returns c = stands
