use Rattle.fm_rule_calls.proofs.Waiting.{Waited}
use Rattle.fm_gate.proofs.holding.take.Given as goal

abbrev pub invariant-loop : goal.invariant-loop
invariant-loop g l = Waited l.fn.pass l.pass
