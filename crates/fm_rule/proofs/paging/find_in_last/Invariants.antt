use Rattle.fm_rule.proofs.paging.find_in_last.Given as goal

abbrev pub ghosts-load_as : goal.ghosts-load_as
ghosts-load_as a = record { step = a.step }
