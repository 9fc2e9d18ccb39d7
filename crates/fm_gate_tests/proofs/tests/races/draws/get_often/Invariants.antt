use Rattle.fm_gate.specs.Needs.{IsOutside}
use Rattle.fm_gate_tests.proofs.tests.races.draws.get_often.Given as goal

abbrev pub invariant-loop-got : goal.invariant-loop-got
invariant-loop-got g l = IsOutside l.fn.pool l.pass
