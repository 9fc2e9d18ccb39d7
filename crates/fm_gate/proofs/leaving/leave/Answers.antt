use Rattle.fm_gate.proofs.Acts.{after_leave}
use Rattle.fm_gate.proofs.leaving.leave.Goals as goal

pub returns : goal.returns
returns c = after_leave c.step_unmark.ensures c.requires
