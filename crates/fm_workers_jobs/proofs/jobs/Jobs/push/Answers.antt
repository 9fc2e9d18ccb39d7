use Rattle.fm_workers_jobs.proofs.Moves.{pushes, knows_most}
use Rattle.fm_workers_jobs.proofs.jobs.Jobs.push.Goals as goal

pub push_as-requires-clause-rule : goal.push_as-requires-clause-rule
push_as-requires-clause-rule g c = (pushes _ _ _ _ c.requires.giver.role c.requires.follows, knows_most _ _ c.requires.giver.role)
