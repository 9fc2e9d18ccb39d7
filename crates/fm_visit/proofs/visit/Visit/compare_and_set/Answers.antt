use Rattle.fm_visit.proofs.Visiting.{exchange_here, visited_elsewhere, visited_here}
use Rattle.fm_visit.proofs.visit.Visit.compare_and_set.Goals as goal

pub returns-then-is_elsewhere : goal.returns-then-is_elsewhere
returns-then-is_elsewhere g c = visited_elsewhere c.requires.call.inside (c.is_elsewhere.ensures.yes c.if-is_elsewhere.true)

pub compare_and_set-requires : goal.compare_and_set-requires
compare_and_set-requires g c = exchange_here c.requires (c.is_elsewhere.ensures.no c.if-is_elsewhere.false)

pub returns : goal.returns
returns g c = visited_here (c.is_elsewhere.ensures.no c.if-is_elsewhere.false) c.compare_and_set.ensures
