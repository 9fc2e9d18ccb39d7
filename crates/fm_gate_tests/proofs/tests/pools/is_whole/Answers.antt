use Rattle.fm_gate_tests.proofs.tests.pools.is_whole.Goals as goal

pub returns-clause-lasts : goal.returns-clause-lasts
returns-clause-lasts c = (c.a_crew_stands.ensures.at_look c.args.pool.now _ _ _ c.whole.ensures).lasts
