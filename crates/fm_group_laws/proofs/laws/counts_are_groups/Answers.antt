use Rattle.fm_group_laws.proofs.Crewing.{counts_are_groups}
use Rattle.fm_group_laws.proofs.laws.counts_are_groups.Goals as goal

pub returns : goal.returns
returns c = counts_are_groups
