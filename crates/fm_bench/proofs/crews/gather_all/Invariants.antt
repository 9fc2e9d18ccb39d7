use Rattle.std.specs.Prelude.{All}
use Rattle.fm_bench.proofs.crews.gather_all.Given as goal
use Rattle.fm_bench.specs.Ready.{FreeAfter, IsFree}

abbrev pub invariant-loop-worker : goal.invariant-loop-worker
invariant-loop-worker l = FreeAfter l.fn.pool l.fn.pass l.pass × All (λ w. IsFree l.fn.pool w.pass) l.left.items

abbrev pub decreases-loop-worker : goal.decreases-loop-worker
decreases-loop-worker l = goal.left-loop-worker l
