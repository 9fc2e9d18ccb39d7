use Rattle.fm_visit.proofs.Visiting.{here_in, visited_elsewhere, visited_here}
use Rattle.fm_visit.proofs.visit.Visit.get_bytes.Goals as goal

pub returns-then-is_elsewhere-clause-got : goal.returns-then-is_elsewhere-clause-got
returns-then-is_elsewhere-clause-got g c = visited_elsewhere c.requires (c.is_elsewhere.ensures.yes c.if-is_elsewhere.true)

pub get_bytes-requires : goal.get_bytes-requires
get_bytes-requires g c = here_in c.requires (c.is_elsewhere.ensures.no c.if-is_elsewhere.false)

pub returns-clause-got : goal.returns-clause-got
returns-clause-got g c = visited_here (c.is_elsewhere.ensures.no c.if-is_elsewhere.false) c.get_bytes.ensures.got
