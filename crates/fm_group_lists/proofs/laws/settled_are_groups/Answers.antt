use Rattle.fm_group_lists.proofs.Summing.{settled_groups}
use Rattle.fm_group_lists.proofs.laws.settled_are_groups.Goals as goal

pub returns : goal.returns
returns c = settled_groups
