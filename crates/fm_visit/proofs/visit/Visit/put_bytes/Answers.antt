use Rattle.fm_visit.proofs.Visiting.{here_in, visited_elsewhere, visited_here}
use Rattle.fm_visit.proofs.visit.Visit.put_bytes.Goals as goal

pub returns-then-is_elsewhere : goal.returns-then-is_elsewhere
returns-then-is_elsewhere g c = visited_elsewhere c.requires (c.is_elsewhere.ensures.yes c.if-is_elsewhere.true)

pub put_bytes-requires : goal.put_bytes-requires
put_bytes-requires g c = here_in c.requires (c.is_elsewhere.ensures.no c.if-is_elsewhere.false)

pub returns : goal.returns
returns g c = visited_here (c.is_elsewhere.ensures.no c.if-is_elsewhere.false) c.put_bytes.ensures
