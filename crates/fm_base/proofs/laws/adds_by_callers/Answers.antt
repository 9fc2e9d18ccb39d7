use Rattle.fm_base.proofs.Counting.{by_callers}
use Rattle.fm_base.proofs.laws.adds_by_callers.Goals as goal

pub returns : goal.returns
returns c = by_callers
