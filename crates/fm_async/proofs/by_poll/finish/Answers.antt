use Rattle.fm_async.proofs.Ends.{came_from, ends_by}
use Rattle.fm_async.proofs.by_poll.finish.Goals as goal

pub returns-clause-ends : goal.returns-clause-ends
returns-clause-ends g c =
    ends_by (came_from g.O.Origin.start _ _ c.requires.start c.closer.invariant).visited c.visit_all.ensures c.sweep.ensures
