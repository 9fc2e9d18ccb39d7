use Rattle.fm_base_machine.proofs.Handles.{handles_counted}
use Rattle.fm_base_machine.proofs.handles_are_counted.Goals as goal

pub returns : goal.returns
returns c = handles_counted
