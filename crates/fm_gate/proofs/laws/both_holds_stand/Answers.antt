use Rattle.fm_gate.proofs.Both.{stands}
use Rattle.fm_gate.proofs.laws.both_holds_stand.Goals as goal

pub returns : goal.returns
returns c = stands
