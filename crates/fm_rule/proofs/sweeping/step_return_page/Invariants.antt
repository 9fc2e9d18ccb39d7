use Rattle.fm_rule.proofs.sweeping.step_return_page.Given as goal

abbrev pub ghosts-or_as : goal.ghosts-or_as
ghosts-or_as a = record { step = a.step }
