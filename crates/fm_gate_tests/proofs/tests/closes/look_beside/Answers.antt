use Rattle.fm_gate_tests.proofs.tests.closes.look_beside.Goals as goal

pub returns-clause-walks : goal.returns-clause-walks
returns-clause-walks c = c.a_close_lasts.ensures.stands _ _ _ _ c.is_alive.ensures.did.goes c.is_alive.ensures.did.rest

pub returns-clause-sweep : goal.returns-clause-sweep
returns-clause-sweep c =
    c.a_close_lasts.ensures.ended _ _ _ _ c.is_alive.ensures.did.goes c.is_alive.ensures.did.rest
