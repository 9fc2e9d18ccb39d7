use Rattle.fm_gate.specs.Needs.{IsOutside}
use Rattle.fm_gate_tests.proofs.tests.closes.reuse.open_often.Given as goal

abbrev pub invariant-loop-opened : goal.invariant-loop-opened
invariant-loop-opened g l = IsOutside l.fn.pool l.pass
