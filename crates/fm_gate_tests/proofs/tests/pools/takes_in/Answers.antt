use Rattle.fm_gate_tests.proofs.tests.pools.takes_in.Goals as goal

pub returns-clause-stands : goal.returns-clause-stands
returns-clause-stands c =
    let law = c.a_crew_stands.ensures in
    let can = law.can_gather c.args.pool.now c.args.other c.requires.other c.requires.nothing in
    (law.at_gather c.args.pool.now _ _ _ c.requires.outside.of can c.gather.ensures).stands

pub returns-clause-lasts : goal.returns-clause-lasts
returns-clause-lasts c =
    let law = c.a_crew_stands.ensures in
    let can = law.can_gather c.args.pool.now c.args.other c.requires.other c.requires.nothing in
    (law.at_gather c.args.pool.now _ _ _ c.requires.outside.of can c.gather.ensures).lasts
