use Rattle.fm_base.proofs.Weights.{weighs_by_callers}
use Rattle.fm_base_laws.proofs.laws.weighs_by_callers.Goals as goal

pub returns : goal.returns
returns c = weighs_by_callers
