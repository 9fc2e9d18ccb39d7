use Rattle.fm_rule.proofs.numbering.step_give_number.Given as goal

abbrev pub ghosts-or_as : goal.ghosts-or_as
ghosts-or_as a = record { step = a.step }
