use Rattle.fm_visit.proofs.Visiting.{put_here, visited_elsewhere, visited_here}
use Rattle.fm_visit.proofs.visit.Visit.get_and_add.Goals as goal

pub returns-then-is_elsewhere-clause-added : goal.returns-then-is_elsewhere-clause-added
returns-then-is_elsewhere-clause-added g c = visited_elsewhere c.requires.call.inside (c.is_elsewhere.ensures.yes c.if-is_elsewhere.true)

pub get_and_add-requires : goal.get_and_add-requires
get_and_add-requires g c = put_here c.requires (c.is_elsewhere.ensures.no c.if-is_elsewhere.false)

pub returns-clause-added : goal.returns-clause-added
returns-clause-added g c = visited_here (c.is_elsewhere.ensures.no c.if-is_elsewhere.false) c.get_and_add.ensures.added
