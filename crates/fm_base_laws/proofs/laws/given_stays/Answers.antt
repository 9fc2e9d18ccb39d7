use Rattle.fm_base_laws.proofs.Counts.{given_stays}
use Rattle.fm_base_laws.proofs.laws.given_stays.Goals as goal

pub returns : goal.returns
returns c = given_stays
