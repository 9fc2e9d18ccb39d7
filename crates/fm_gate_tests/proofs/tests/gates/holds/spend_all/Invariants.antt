use Rattle.fm_gate_tests.specs.Holds.{AreHeld}
use Rattle.fm_gate_tests.proofs.tests.gates.holds.spend_all.Given as goal

abbrev pub invariant-loop-one : goal.invariant-loop-one
invariant-loop-one l = AreHeld l.pool l.pass l.fn.a l.left.items

abbrev pub decreases-loop-one : goal.decreases-loop-one
decreases-loop-one l = goal.left-loop-one l
