use Rattle.fm_async.proofs.Ends.{VisitsAll}
use Rattle.fm_async.proofs.by_poll.visit_all.Given as goal

abbrev pub invariant-loop : goal.invariant-loop
invariant-loop g l =
    (goal.iterator-loop g).can_next l.iterator' × (goal.iterator-loop g).is_finite l.iterator'
    × VisitsAll l.pool l.fn.pass l.pass l.fn.s l.s
