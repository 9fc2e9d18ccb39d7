use Rattle.fm_rule.proofs.numbering.step_raise_term.Given as goal

abbrev pub ghosts-store_as : goal.ghosts-store_as
ghosts-store_as a = record { step = a.step }
