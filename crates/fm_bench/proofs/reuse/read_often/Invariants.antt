use Rattle.fm_bench.specs.Ready.{CanRead}
use Rattle.fm_bench.proofs.reuse.read_often.Given as goal

abbrev pub invariant-loop-turn : goal.invariant-loop-turn
invariant-loop-turn l = CanRead l.fn.pool l.worker.pass 64 l.fn.a
