use Rattle.fm_workers_queue.proofs.Moves.{forks}
use Rattle.fm_workers_queue.proofs.queue.Queue.another.Goals as goal

pub another-requires-clause-rule : goal.another-requires-clause-rule
another-requires-clause-rule g c = forks _ _ c.requires.role
