use Rattle.fm_gate.specs.Needs.{CanAllocate}
use Rattle.fm_gate_tests.proofs.tests.gates.bytes_are_given_up_to_the_limit.Given as goal

abbrev pub invariant-loop-size : goal.invariant-loop-size
invariant-loop-size g l = CanAllocate l.pool l.pass l.a
