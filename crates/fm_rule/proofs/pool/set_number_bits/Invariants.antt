use Rattle.fm_words.specs.Places.{page_groups}
use Rattle.fm_rule.specs.Beginning.{IsBegun}
use Rattle.fm_rule.proofs.pool.set_number_bits.Given as goal

abbrev pub invariant-loop-group : goal.invariant-loop-group
invariant-loop-group l = IsBegun l.shape l.words.items (page_groups l.shape) l.group
