use Rattle.fm_group_lists.proofs.One.{sums_one}
use Rattle.fm_group_lists.proofs.laws.sums_are_one.Goals as goal

pub returns : goal.returns
returns c = sums_one
