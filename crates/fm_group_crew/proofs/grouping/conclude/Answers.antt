use Rattle.fm_group_crew.proofs.Tasks.{concluded_refused}
use Rattle.fm_group_crew.proofs.grouping.conclude.Goals as goal

pub returns-in-Err-clause-did : goal.returns-in-Err-clause-did
returns-in-Err-clause-did g c = concluded_refused c.args.table.now c.args.end c.in-Err.refusal c.in-Err.is
