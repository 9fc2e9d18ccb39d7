use Rattle.fm_top.proofs.Grouped.{has_table}
use Rattle.fm_top.proofs.outcome.group.GroupPlan.group.Goals as goal

pub group-requires-clause-beside : goal.group-requires-clause-beside
group-requires-clause-beside g c κs within = has_table _ _ c.requires.few c.requires.beside
