use Rattle.std.proofs.Common.{arith}
use Rattle.fm_rule.proofs.Allowed.{allow, told_as}
use Rattle.fm_rule.proofs.acts.load_as.Goals as goal

pub load-requires : goal.load-requires
load-requires g c = (
  c.requires.can.table,
  (let s = c.args.pool.now.sized in let p = c.requires.can.place in omega arith),
  allow _ _ _ _ _ _ _ _
      (λ n. n) c.args.pool.now.shape_is c.requires.step c.requires.can.may,
)

pub returns : goal.returns
returns g c = record { table = c.load.ensures.0; id = c.load.ensures.1; slots = c.load.ensures.2.1; tells = told_as _ _ _ _ _ c.requires.step c.load.ensures.2.0 }
