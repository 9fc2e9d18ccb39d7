use Rattle.fm_visit.proofs.Visiting.{call_here, visited_elsewhere, visited_here}
use Rattle.fm_visit.proofs.visit.Visit.get_by.Goals as goal

pub returns-then-is_elsewhere-clause-got : goal.returns-then-is_elsewhere-clause-got
returns-then-is_elsewhere-clause-got g c = visited_elsewhere c.requires.inside (c.is_elsewhere.ensures.yes c.if-is_elsewhere.true)

pub get_by-requires : goal.get_by-requires
get_by-requires g c = call_here c.requires (c.is_elsewhere.ensures.no c.if-is_elsewhere.false)

pub returns-clause-got : goal.returns-clause-got
returns-clause-got g c = visited_here (c.is_elsewhere.ensures.no c.if-is_elsewhere.false) c.get_by.ensures.got
