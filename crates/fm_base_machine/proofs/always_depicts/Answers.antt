use Rattle.fm_base_machine.proofs.Depicting.{always}
use Rattle.fm_base_machine.proofs.always_depicts.Goals as goal

pub returns : goal.returns
returns c = always
