use Rattle.fm_base_laws.proofs.Claims.{claims_stand}
use Rattle.fm_base_laws.proofs.laws.claims_stand.Goals as goal

pub returns : goal.returns
returns c = claims_stand
