use Rattle.fm_rule.proofs.taking.step_take_slot.Given as goal

abbrev pub ghosts-exchange_as : goal.ghosts-exchange_as
ghosts-exchange_as a = record { step = a.step }
