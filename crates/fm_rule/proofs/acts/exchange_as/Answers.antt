use Rattle.std.proofs.Common.{arith, ◌==◌}
use prog.Atomic.{either}
use Rattle.fm_rule.proofs.Allowed.{allow, told_as}
use Rattle.fm_rule.proofs.acts.exchange_as.Goals as goal

pub compare_exchange-requires : goal.compare_exchange-requires
compare_exchange-requires g c = (
  c.requires.can.table,
  (let s = c.args.pool.now.sized in let p = c.requires.can.place in omega arith),
  allow _ _ _ _ _ _ _ _
      (λ n. either (n == c.args.old) c.args.new n) c.args.pool.now.shape_is c.requires.step c.requires.can.may,
)

pub returns : goal.returns
returns g c = record { table = c.compare_exchange.ensures.0; id = c.compare_exchange.ensures.1; slots = c.compare_exchange.ensures.2.1; tells = told_as _ _ _ _ _ c.requires.step c.compare_exchange.ensures.2.0 }
