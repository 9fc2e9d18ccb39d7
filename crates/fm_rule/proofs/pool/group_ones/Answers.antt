use Rattle.std.proofs.Common.{sym, subst}
use Rattle.fm_rule.{specs.Beginning.{IsFull}, proofs.Beginning.{full_word}}
use Rattle.fm_rule.proofs.pool.group_ones.Goals as goal

pub returns : goal.returns
returns c = subst (IsFull c.args.count c.args.group) (sym c.ones.ensures) (full_word c.args.count c.args.group c.min.result c.min.ensures)
