use Rattle.std.proofs.Common.{arith, ◌+◌, ◌%◌, ◌^◌}
use Rattle.fm_rule.proofs.Allowed.{allow, told_as}
use Rattle.fm_rule.proofs.acts.add_as.Goals as goal

pub fetch_add-requires : goal.fetch_add-requires
fetch_add-requires g c = (
  c.requires.can.table,
  (let s = c.args.pool.now.sized in let p = c.requires.can.place in omega arith),
  allow _ _ _ _ _ _ _ _
      (λ w. (w + c.args.n) % 2 ^ 64) c.args.pool.now.shape_is c.requires.step c.requires.can.may,
)

pub returns : goal.returns
returns g c = record { table = c.fetch_add.ensures.0; id = c.fetch_add.ensures.1; slots = c.fetch_add.ensures.2.1; tells = told_as _ _ _ _ _ c.requires.step c.fetch_add.ensures.2.0 }
