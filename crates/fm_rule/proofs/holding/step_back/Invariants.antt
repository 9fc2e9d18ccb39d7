use Rattle.fm_rule.proofs.holding.step_back.Given as goal

abbrev pub ghosts-exchange_as : goal.ghosts-exchange_as
ghosts-exchange_as a = record { step = a.step }
