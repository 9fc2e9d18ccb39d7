use Rattle.fm_base.proofs.Counting.{counted}
use Rattle.fm_base.proofs.laws.adds_count.Goals as goal

pub returns : goal.returns
returns c = counted
