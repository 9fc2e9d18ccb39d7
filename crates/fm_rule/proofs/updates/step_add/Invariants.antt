use Rattle.fm_rule.proofs.updates.step_add.Given as goal

abbrev pub ghosts-add_as : goal.ghosts-add_as
ghosts-add_as a = record { step = a.step }
