use Rattle.fm_workers.specs.Asking.{known_later}
use Rattle.fm_workers_tests.proofs.crews.tallies.zeros.Goals as goal

pub returns-clause-there : goal.returns-clause-there
returns-clause-there g c = known_later c.fresh.ensures.lasts c.requires.there
