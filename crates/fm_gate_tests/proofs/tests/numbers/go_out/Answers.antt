use Rattle.fm_gate_tests.proofs.tests.numbers.go_out.Goals as goal

pub returns-clause-nothing : goal.returns-clause-nothing
returns-clause-nothing c = c.a_crew_stands.ensures.nothing _ _ _ c.leave.ensures.did.goes c.leave.ensures.did.rest c.requires.nothing
