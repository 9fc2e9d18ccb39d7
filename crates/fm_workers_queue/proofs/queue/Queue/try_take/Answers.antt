use Rattle.fm_workers_queue.proofs.Moves.{pops}
use Rattle.fm_workers_queue.proofs.queue.Queue.try_take.Goals as goal

pub pop_as-requires-clause-rule : goal.pop_as-requires-clause-rule
pop_as-requires-clause-rule g c = (pops _ _ c.requires.role, λ items views fair at. tt)
