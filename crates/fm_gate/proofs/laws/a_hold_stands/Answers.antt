use Rattle.fm_gate.proofs.Lasting.{stands}
use Rattle.fm_gate.proofs.laws.a_hold_stands.Goals as goal

pub returns : goal.returns
returns c = stands
