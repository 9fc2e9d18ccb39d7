use Rattle.fm_gate.specs.Needs.{IsOutside}
use Rattle.fm_gate_tests.proofs.tests.numbers.drawn_in_all.Given as goal

abbrev pub invariant-loop-drawn : goal.invariant-loop-drawn
invariant-loop-drawn g l = IsOutside l.pool l.pass
