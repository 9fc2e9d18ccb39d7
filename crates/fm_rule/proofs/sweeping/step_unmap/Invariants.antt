use Rattle.fm_rule.proofs.sweeping.step_unmap.Given as goal

abbrev pub ghosts-store_as : goal.ghosts-store_as
ghosts-store_as a = record { step = a.step }
