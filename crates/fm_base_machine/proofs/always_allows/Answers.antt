use Rattle.fm_base_machine.proofs.Allowing.{allows}
use Rattle.fm_base_machine.proofs.always_allows.Goals as goal

pub returns : goal.returns
returns c = allows
