use Rattle.fm_workers_jobs.proofs.Moves.{merges}
use Rattle.fm_workers_jobs.proofs.jobs.Jobs.absorb.Goals as goal

pub absorb-requires-clause-rule : goal.absorb-requires-clause-rule
absorb-requires-clause-rule c = merges _ _ _ _ c.requires.giver.role c.requires.taker.role
