use Rattle.fm_group_crew.specs.Tasks.{known_later}
use Rattle.fm_group_crew_tests.proofs.tests.pools.zeros.Goals as goal

pub returns-clause-known : goal.returns-clause-known
returns-clause-known g c = known_later c.fresh-places.ensures.lasts c.fresh-records.ensures.known
