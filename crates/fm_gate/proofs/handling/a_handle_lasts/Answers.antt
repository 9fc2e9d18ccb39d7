use Rattle.fm_gate.proofs.Outliving.{lasts}
use Rattle.fm_gate.proofs.handling.a_handle_lasts.Goals as goal

pub returns : goal.returns
returns c = lasts
