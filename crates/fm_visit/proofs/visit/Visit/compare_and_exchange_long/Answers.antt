use Rattle.std.proofs.{Common.{w64}, lemmas.Int.{to_z-of_z}}
use Rattle.fm_visit.proofs.Visiting.{call_here, visited_elsewhere, visited_here}
use Rattle.fm_visit.proofs.visit.Visit.compare_and_exchange_long.Goals as goal

pub returns-then-is_elsewhere : goal.returns-then-is_elsewhere
returns-then-is_elsewhere g c = visited_elsewhere c.requires.inside (c.is_elsewhere.ensures.yes c.if-is_elsewhere.true)

pub compare_and_exchange_long-requires : goal.compare_and_exchange_long-requires
compare_and_exchange_long-requires g c = call_here c.requires (c.is_elsewhere.ensures.no c.if-is_elsewhere.false)

pub returns : goal.returns
returns g c = visited_here (c.is_elsewhere.ensures.no c.if-is_elsewhere.false) (rw (to_z-of_z w64 c.args.expected c.ranges.expected, to_z-of_z w64 c.args.v c.ranges.v) at c.compare_and_exchange_long.ensures)
