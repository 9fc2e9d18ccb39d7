use Rattle.fm_rule.proofs.holding.step_unhold.Given as goal

abbrev pub ghosts-subtract_as : goal.ghosts-subtract_as
ghosts-subtract_as a = record { step = a.step }
