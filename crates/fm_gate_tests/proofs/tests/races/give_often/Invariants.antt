use Rattle.fm_gate.specs.Needs.{CanAllocate}
use Rattle.fm_gate_tests.proofs.tests.races.give_often.Given as goal

abbrev pub invariant-loop-given : goal.invariant-loop-given
invariant-loop-given g l = CanAllocate l.fn.pool l.pass l.fn.a
