use Rattle.fm_rule.proofs.Counting.{Counting}
use Rattle.fm_rule.proofs.pool.Pool.count_draw.Given as goal

abbrev pub invariant-loop : goal.invariant-loop
invariant-loop g l = Counting l.self l.fn.giver l.giver l.caller l.expected
