use Rattle.fm_bench.proofs.gates.rounds.Given as goal
use Rattle.fm_bench.specs.Ready.{CanRead}

abbrev pub invariant-loop : goal.invariant-loop
invariant-loop l = CanRead l.fn.pool l.pass 65536 l.fn.arena

abbrev pub invariant-loop-word : goal.invariant-loop-word
invariant-loop-word l = CanRead l.fn.pool l.pass 65536 l.fn.arena
