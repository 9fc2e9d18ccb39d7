use Rattle.fm_workers_tests.proofs.Known.{drawn_as, known_drew, known_gathered}
use Rattle.fm_workers_tests.proofs.crews.again.ask_beside.Goals as goal

pub refuses-requires-clause-known : goal.refuses-requires-clause-known
refuses-requires-clause-known g c κs within = known_drew (drawn_as c.draw.ensures.drawn c.expect-other.ensures) c.requires.known

pub returns-clause-known : goal.returns-clause-known
returns-clause-known g c = known_gathered c.gather.ensures c.refuses.ensures.known
