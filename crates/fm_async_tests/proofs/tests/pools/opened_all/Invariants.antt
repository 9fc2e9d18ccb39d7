use Rattle.std.proofs.Common.{◌≡◌, vec_len}
use Rattle.fm_async_tests.specs.Knows.{Knows}
use Rattle.fm_async_tests.proofs.tests.pools.opened_all.Given as goal

abbrev pub invariant-loop : goal.invariant-loop
invariant-loop g l = Knows l.pool l.pass l.arenas.items × (vec_len l.arenas ≡ l.counter)
