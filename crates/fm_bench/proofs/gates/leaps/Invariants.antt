use Rattle.fm_bench.proofs.gates.leaps.Given as goal
use Rattle.fm_bench.specs.Ready.{AreOpen}

abbrev pub invariant-loop-turn : goal.invariant-loop-turn
invariant-loop-turn l = AreOpen l.fn.pool l.pass l.fn.arenas 1024
