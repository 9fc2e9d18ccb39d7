use Rattle.fm_visit.proofs.Visiting.{put_here, visited_elsewhere, visited_here}
use Rattle.fm_visit.proofs.visit.Visit.set_by.Goals as goal

pub returns-then-is_elsewhere : goal.returns-then-is_elsewhere
returns-then-is_elsewhere g c = visited_elsewhere c.requires.call.inside (c.is_elsewhere.ensures.yes c.if-is_elsewhere.true)

pub set_by-requires : goal.set_by-requires
set_by-requires g c = put_here c.requires (c.is_elsewhere.ensures.no c.if-is_elsewhere.false)

pub returns : goal.returns
returns g c = visited_here (c.is_elsewhere.ensures.no c.if-is_elsewhere.false) c.set_by.ensures
