use Rattle.fm_group_laws.proofs.Behind.{groups_read}
use Rattle.fm_group_laws.proofs.laws.groups_are_read.Goals as goal

pub returns : goal.returns
returns c = groups_read
