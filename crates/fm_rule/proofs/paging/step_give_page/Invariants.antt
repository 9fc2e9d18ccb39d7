use Rattle.fm_rule.proofs.paging.step_give_page.Given as goal

abbrev pub ghosts-or_as : goal.ghosts-or_as
ghosts-or_as a = record { step = a.step }
