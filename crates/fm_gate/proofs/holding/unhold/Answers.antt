use Rattle.fm_gate.proofs.Holds.{after_unhold}
use Rattle.fm_gate.proofs.holding.unhold.Goals as goal

pub returns : goal.returns
returns c = after_unhold c.requires c.step_unhold.ensures
