use Rattle.std.proofs.Common.{◌≡◌, vec_len}
use Rattle.fm_bench.specs.Knowing.{Knows}
use Rattle.fm_bench.proofs.polls.opened.Given as goal

abbrev pub invariant-loop : goal.invariant-loop
invariant-loop g l = Knows l.pool l.pass l.arenas.items × (vec_len l.arenas ≡ l.counter)
