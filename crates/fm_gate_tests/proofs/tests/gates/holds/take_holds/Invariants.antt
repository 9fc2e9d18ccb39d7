use Rattle.fm_gate_tests.specs.Holds.{AreHeld}
use Rattle.fm_gate_tests.proofs.tests.gates.holds.take_holds.Given as goal

abbrev pub invariant-loop : goal.invariant-loop
invariant-loop g l = AreHeld l.pool l.pass l.a l.held.items
