use Rattle.std.proofs.Common.{arith, bit_or}
use Rattle.fm_rule.proofs.Allowed.{allow, told_as}
use Rattle.fm_rule.proofs.acts.or_as.Goals as goal

pub fetch_or-requires : goal.fetch_or-requires
fetch_or-requires g c = (
  c.requires.can.table,
  (let s = c.args.pool.now.sized in let p = c.requires.can.place in omega arith),
  allow _ _ _ _ _ _ _ _
      (λ w. bit_or w c.args.n) c.args.pool.now.shape_is c.requires.step c.requires.can.may,
)

pub returns : goal.returns
returns g c = record { table = c.fetch_or.ensures.0; id = c.fetch_or.ensures.1; slots = c.fetch_or.ensures.2.1; tells = told_as _ _ _ _ _ c.requires.step c.fetch_or.ensures.2.0 }
