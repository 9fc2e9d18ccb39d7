use Rattle.fm_gate_tests.proofs.tests.numbers.come_in.Goals as goal

pub returns-clause-nothing : goal.returns-clause-nothing
returns-clause-nothing g c = c.a_crew_stands.ensures.nothing _ _ _ c.enter.ensures.did.goes c.enter.ensures.did.rest c.requires.nothing
