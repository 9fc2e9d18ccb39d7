use Rattle.fm_workers_tests.proofs.Pages.{pages_kept}
use Rattle.fm_workers_tests.proofs.crews.write.Goals as goal

pub returns-clause-pages : goal.returns-clause-pages
returns-clause-pages c = pages_kept c.store.ensures.did
