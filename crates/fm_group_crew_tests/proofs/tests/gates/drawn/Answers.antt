use Rattle.fm_workers_crew.proofs.Drawing.{outside_drew, outside_new}
use Rattle.fm_group_crew_tests.proofs.Known.{drawn_as, known_drew, known_new}
use Rattle.fm_group_crew_tests.proofs.tests.gates.drawn.Goals as goal

pub returns-clause-outside : goal.returns-clause-outside
returns-clause-outside g c = outside_drew c.requires.outside (drawn_as c.draw.ensures.drawn c.expect.ensures)

pub returns-clause-known : goal.returns-clause-known
returns-clause-known g c = known_drew (drawn_as c.draw.ensures.drawn c.expect.ensures) c.requires.known

pub returns-clause-places : goal.returns-clause-places
returns-clause-places g c = known_drew (drawn_as c.draw.ensures.drawn c.expect.ensures) c.requires.places

pub returns-clause-new_outside : goal.returns-clause-new_outside
returns-clause-new_outside g c = outside_new c.requires.outside (drawn_as c.draw.ensures.drawn c.expect.ensures)

pub returns-clause-new_places : goal.returns-clause-new_places
returns-clause-new_places g c = known_new (drawn_as c.draw.ensures.drawn c.expect.ensures) c.requires.places
