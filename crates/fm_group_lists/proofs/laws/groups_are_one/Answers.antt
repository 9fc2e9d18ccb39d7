use Rattle.fm_group_lists.proofs.One.{groups_one}
use Rattle.fm_group_lists.proofs.laws.groups_are_one.Goals as goal

pub returns : goal.returns
returns c = groups_one
