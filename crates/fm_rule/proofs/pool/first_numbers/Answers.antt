use Rattle.fm_rule.proofs.Beginning.{first_without, first_all}
use Rattle.fm_rule.proofs.pool.first_numbers.Goals as goal

pub returns-then-group-eq0 : goal.returns-then-group-eq0
returns-then-group-eq0 c = first_without c.args.shape c.args.group _ _ c.if-group-eq0.true c.group_ones-word.ensures c.without_bit.ensures

pub returns-else-group-eq0 : goal.returns-else-group-eq0
returns-else-group-eq0 c = first_all c.args.shape c.args.group _ c.if-group-eq0.false c.group_ones-word.ensures
