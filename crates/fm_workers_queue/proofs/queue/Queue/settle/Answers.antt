use Rattle.fm_workers_queue.proofs.{Moves.{knows_all}, Settled.{settles}}
use Rattle.fm_workers_queue.proofs.queue.Queue.settle.Goals as goal

pub learn_as-requires-clause-rule : goal.learn_as-requires-clause-rule
learn_as-requires-clause-rule g c = knows_all _ _ c.requires.owner.role c.requires.home

pub returns-clause-settled : goal.returns-clause-settled
returns-clause-settled g c = let learnt = c.learn_as.ensures.rule in settles _ learnt.0 learnt.1
