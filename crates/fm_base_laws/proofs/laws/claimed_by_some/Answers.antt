use Rattle.fm_base_laws.proofs.Claims.{claimed_by_some}
use Rattle.fm_base_laws.proofs.laws.claimed_by_some.Goals as goal

pub returns : goal.returns
returns c = claimed_by_some
