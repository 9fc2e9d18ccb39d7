use Rattle.fm_rule_facts.specs.Hands.{no_number}
use Rattle.fm_rule.specs.Draws.{Seeks}
use Rattle.fm_rule.proofs.pool.Pool.take_number.Given as goal

abbrev pub invariant-loop : goal.invariant-loop
invariant-loop g l = Seeks l.self l.fn.giver l.giver no_number
