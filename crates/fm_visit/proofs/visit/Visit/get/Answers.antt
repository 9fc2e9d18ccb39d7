use Rattle.fm_visit.proofs.Visiting.{here_in, visited_elsewhere, visited_here}
use Rattle.fm_visit.proofs.visit.Visit.get.Goals as goal

pub returns-then-is_elsewhere-clause-got : goal.returns-then-is_elsewhere-clause-got
returns-then-is_elsewhere-clause-got g c = visited_elsewhere c.requires.inside (c.is_elsewhere.ensures.yes c.if-is_elsewhere.true)

pub get-requires-clause-inside : goal.get-requires-clause-inside
get-requires-clause-inside g c = here_in c.requires.inside (c.is_elsewhere.ensures.no c.if-is_elsewhere.false)

pub returns-clause-got : goal.returns-clause-got
returns-clause-got g c = visited_here (c.is_elsewhere.ensures.no c.if-is_elsewhere.false) c.get.ensures.got
