use Rattle.fm_rule.proofs.steps.step_store.Given as goal

abbrev pub ghosts-store_as : goal.ghosts-store_as
ghosts-store_as a = record { step = a.step }
