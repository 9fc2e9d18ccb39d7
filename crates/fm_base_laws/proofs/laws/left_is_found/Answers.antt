use Rattle.fm_base_laws.proofs.Left.{left_is_found}
use Rattle.fm_base_laws.proofs.laws.left_is_found.Goals as goal

pub returns : goal.returns
returns c = left_is_found
