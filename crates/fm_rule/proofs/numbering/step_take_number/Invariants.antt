use Rattle.fm_rule.proofs.numbering.step_take_number.Given as goal

abbrev pub ghosts-exchange_as : goal.ghosts-exchange_as
ghosts-exchange_as a = record { step = a.step }
