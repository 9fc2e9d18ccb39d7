use Rattle.fm_pages.proofs.Bids.{Bidding}
use Rattle.fm_pages.proofs.claiming.claim.Given as goal

abbrev pub invariant-loop : goal.invariant-loop
invariant-loop g l = Bidding l.pool l.fn.pass l.pass
