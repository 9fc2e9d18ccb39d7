use Rattle.fm_gate_tests.proofs.tests.closes.visit_beside.Goals as goal

pub returns-clause-other : goal.returns-clause-other
returns-clause-other c = c.a_close_lasts.ensures.beside.at_visit _ _ _ _ _ _ _ c.visit.ensures c.requires.apart c.requires.other
