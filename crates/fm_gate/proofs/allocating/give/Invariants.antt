use Rattle.fm_gate.proofs.Gives.{Giving}
use Rattle.fm_gate.proofs.allocating.give.Given as goal

abbrev pub invariant-loop : goal.invariant-loop
invariant-loop g l = Giving l.pool l.fn.pass l.pass l.id l.size l.align l.count l.found
