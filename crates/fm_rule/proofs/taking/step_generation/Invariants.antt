use Rattle.fm_rule.proofs.taking.step_generation.Given as goal

abbrev pub ghosts-load_as : goal.ghosts-load_as
ghosts-load_as a = record { step = a.step }
