use Rattle.fm_gate_tests.specs.Ready.{CanWork}
use Rattle.fm_gate_tests.proofs.tests.closes.threads.add_often.Given as goal

abbrev pub invariant-loop-done : goal.invariant-loop-done
invariant-loop-done l = CanWork l.fn.pool l.pass l.fn.a
