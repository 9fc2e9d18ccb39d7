use Rattle.fm_example.proofs.share.Goals as goal

pub race-added-requires-clause-nothing : goal.race-added-requires-clause-nothing
race-added-requires-clause-nothing g c κs within = c.a_worker_can_be_gathered.ensures.at_meet _ _ _ c.meet.ensures c.requires.nothing
