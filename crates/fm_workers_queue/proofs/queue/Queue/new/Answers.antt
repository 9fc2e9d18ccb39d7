use Rattle.fm_workers_queue.proofs.Moves.{begins}
use Rattle.fm_workers_queue.proofs.queue.Queue.new.Goals as goal

pub ruled-requires-clause-rule : goal.ruled-requires-clause-rule
ruled-requires-clause-rule g c = begins
