use Rattle.fm_async.specs.Sets.{CanBegin}
use Rattle.fm_bench.proofs.polls.rows.Given as goal

abbrev pub invariant-loop : goal.invariant-loop
invariant-loop g l = CanBegin l.pool l.pass
