use Rattle.fm_base_machine.proofs.GoingOn.{goes_on}
use Rattle.fm_base_machine.proofs.always_goes_on.Goals as goal

pub returns : goal.returns
returns c = goes_on
