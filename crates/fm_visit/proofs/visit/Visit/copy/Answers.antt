use Rattle.fm_visit.proofs.Visiting.{apart_elsewhere, both_here, visited_both}
use Rattle.fm_visit.proofs.visit.Visit.copy.Goals as goal

pub returns-then-are_elsewhere-clause-copied : goal.returns-then-are_elsewhere-clause-copied
returns-then-are_elsewhere-clause-copied g c = apart_elsewhere c.args.dst.now c.requires.source (c.are_elsewhere.ensures.yes c.if-are_elsewhere.true)

pub copy-requires : goal.copy-requires
copy-requires g c = both_here c.requires.source c.requires.target (c.are_elsewhere.ensures.no c.if-are_elsewhere.false)

pub returns-clause-copied : goal.returns-clause-copied
returns-clause-copied g c = visited_both c.args.dst.now (c.are_elsewhere.ensures.no c.if-are_elsewhere.false) c.copy.ensures.copied
