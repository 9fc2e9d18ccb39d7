use Rattle.fm_gate.proofs.acting.store.Goals as goal

pub returns : goal.returns
returns c = c.store_placed.ensures.acted
