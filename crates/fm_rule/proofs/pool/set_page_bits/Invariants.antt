use Rattle.fm_rule.specs.Beginning.{IsBegun}
use Rattle.fm_rule.proofs.pool.set_page_bits.Given as goal

abbrev pub invariant-loop-group : goal.invariant-loop-group
invariant-loop-group l = IsBegun l.shape l.words.items l.group 0
