use Rattle.fm_visit.proofs.Visiting.{visited_elsewhere}
use Rattle.fm_visit.proofs.visit.Visit.get_word.Goals as goal

pub returns-then-is_elsewhere : goal.returns-then-is_elsewhere
returns-then-is_elsewhere g c = visited_elsewhere c.requires (c.is_elsewhere.ensures.yes c.if-is_elsewhere.true)
