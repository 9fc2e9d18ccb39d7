use Rattle.fm_visit.proofs.Visiting.{exchange_here, visited_elsewhere, visited_here}
use Rattle.fm_visit.proofs.visit.Visit.compare_and_exchange.Goals as goal

pub returns-then-is_elsewhere-clause-exchanged : goal.returns-then-is_elsewhere-clause-exchanged
returns-then-is_elsewhere-clause-exchanged g c = visited_elsewhere c.requires.call.inside (c.is_elsewhere.ensures.yes c.if-is_elsewhere.true)

pub compare_and_exchange-requires : goal.compare_and_exchange-requires
compare_and_exchange-requires g c = exchange_here c.requires (c.is_elsewhere.ensures.no c.if-is_elsewhere.false)

pub returns-clause-exchanged : goal.returns-clause-exchanged
returns-clause-exchanged g c = visited_here (c.is_elsewhere.ensures.no c.if-is_elsewhere.false) c.compare_and_exchange.ensures.exchanged
