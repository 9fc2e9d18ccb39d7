use Rattle.fm_workers_queue.proofs.Moves.{merges}
use Rattle.fm_workers_queue.proofs.queue.Queue.absorb.Goals as goal

pub absorb-requires-clause-rule : goal.absorb-requires-clause-rule
absorb-requires-clause-rule g c = merges _ _ _ _ c.requires.owner.role c.requires.user.role
