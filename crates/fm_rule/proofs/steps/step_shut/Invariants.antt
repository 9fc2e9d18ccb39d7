use Rattle.fm_rule.proofs.steps.step_shut.Given as goal

abbrev pub ghosts-exchange_as : goal.ghosts-exchange_as
ghosts-exchange_as a = record { step = a.step }
