use Rattle.fm_rule.proofs.numbering.step_learn_term.Given as goal

abbrev pub ghosts-load_as : goal.ghosts-load_as
ghosts-load_as a = record { step = a.step }
