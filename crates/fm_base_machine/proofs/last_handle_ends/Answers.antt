use Rattle.fm_base_machine.proofs.Handles.{last_ends}
use Rattle.fm_base_machine.proofs.last_handle_ends.Goals as goal

pub returns : goal.returns
returns c = last_ends
