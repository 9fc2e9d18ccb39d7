use Rattle.std.proofs.{Common.{w64}, lemmas.Int.{to_z-of_z}}
use Rattle.fm_visit.proofs.Visiting.{call_here, visited_elsewhere, visited_here}
use Rattle.fm_visit.proofs.visit.Visit.set_long.Goals as goal

pub returns-then-is_elsewhere : goal.returns-then-is_elsewhere
returns-then-is_elsewhere g c = visited_elsewhere c.requires.inside (c.is_elsewhere.ensures.yes c.if-is_elsewhere.true)

pub set_long-requires : goal.set_long-requires
set_long-requires g c = call_here c.requires (c.is_elsewhere.ensures.no c.if-is_elsewhere.false)

pub returns : goal.returns
returns g c = visited_here (c.is_elsewhere.ensures.no c.if-is_elsewhere.false) (rw (to_z-of_z w64 c.args.v c.ranges.v) at c.set_long.ensures)
