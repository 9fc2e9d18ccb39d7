use Rattle.std.specs.Prelude.{All}
use Rattle.fm_bench.proofs.crews.hire.Given as goal
use Rattle.fm_bench.specs.Ready.{FreeAfter}

abbrev pub invariant-loop : goal.invariant-loop
invariant-loop g l = FreeAfter l.fn.pool l.fn.pass l.pass × All (λ w. FreeAfter l.fn.pool l.fn.pass w.pass) l.crew.items

abbrev pub invariant-loop-2 : goal.invariant-loop-2
invariant-loop-2 g l = FreeAfter l.fn.pool l.fn.pass l.pass
