use Rattle.fm_example.proofs.add.Goals as goal

pub returns-clause-nothing : goal.returns-clause-nothing
returns-clause-nothing g c = c.a_worker_can_be_gathered.ensures.by_memory _ _ _ c.get_and_add.ensures.did.makes c.requires.nothing
