use Rattle.fm_bench.proofs.crews.act_often.Given as goal
use Rattle.fm_bench.specs.Ready.{CanRead}

abbrev pub invariant-loop : goal.invariant-loop
invariant-loop l = CanRead l.fn.pool l.worker.pass 64 l.fn.a
