use Rattle.fm_visit.proofs.Visiting.{visited_elsewhere}
use Rattle.fm_visit.proofs.visit.Visit.get_words.Goals as goal

pub returns-then-is_elsewhere-clause-got : goal.returns-then-is_elsewhere-clause-got
returns-then-is_elsewhere-clause-got g c = visited_elsewhere c.requires.inside (c.is_elsewhere.ensures.yes c.if-is_elsewhere.true)
