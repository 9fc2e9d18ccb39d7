use Rattle.std.proofs.Common.{◌≡◌}
use Rattle.fm_bench.proofs.polls.end_all.Given as goal

abbrev pub invariant-loop : goal.invariant-loop
invariant-loop g l = (goal.iterator-loop g).can_next l.iterator' × (goal.iterator-loop g).is_finite l.iterator' × (l.set.pool ≡ l.initial.set.pool)
