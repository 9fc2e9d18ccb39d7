use Rattle.fm_workers_jobs.proofs.Moves.{forks}
use Rattle.fm_workers_jobs.proofs.jobs.Jobs.another.Goals as goal

pub another-requires-clause-rule : goal.another-requires-clause-rule
another-requires-clause-rule c = forks _ _ c.requires.role
