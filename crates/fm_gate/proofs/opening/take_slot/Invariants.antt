use Rattle.fm_gate.proofs.Bids.{Bidding}
use Rattle.fm_gate.proofs.opening.take_slot.Given as goal

abbrev pub invariant-loop : goal.invariant-loop
invariant-loop g l = Bidding l.pool l.fn.pass l.pass
