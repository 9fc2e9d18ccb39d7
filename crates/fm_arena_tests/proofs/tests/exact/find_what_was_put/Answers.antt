use Rattle.fm_arena_tests.proofs.Finding.{found_again}
use Rattle.fm_arena_tests.proofs.tests.exact.find_what_was_put.Goals as goal

pub returns-clause-found : goal.returns-clause-found
returns-clause-found g c = found_again c.args.word c.args.v c.load.result c.requires.reach c.requires.by_itself c.store.ensures c.load.ensures
