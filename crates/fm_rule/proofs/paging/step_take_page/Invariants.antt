use Rattle.fm_rule.proofs.paging.step_take_page.Given as goal

abbrev pub ghosts-exchange_as : goal.ghosts-exchange_as
ghosts-exchange_as a = record { step = a.step }
