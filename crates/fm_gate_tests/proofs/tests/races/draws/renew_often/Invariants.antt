use Rattle.fm_gate.specs.{Crews.{HasNothing}, Needs.{IsOutside}}
use Rattle.fm_gate_tests.proofs.tests.races.draws.renew_often.Given as goal

abbrev pub invariant-loop : goal.invariant-loop
invariant-loop g l = IsOutside l.fn.pool l.pass × HasNothing l.pass
