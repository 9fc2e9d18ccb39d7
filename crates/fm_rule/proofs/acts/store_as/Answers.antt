use Rattle.std.proofs.Common.{arith}
use Rattle.fm_rule.proofs.Allowed.{allow_store, told_as}
use Rattle.fm_rule.proofs.acts.store_as.Goals as goal

pub store-requires : goal.store-requires
store-requires g c = (
  c.requires.can.table,
  (let s = c.args.pool.now.sized in let p = c.requires.can.place in omega arith),
  allow_store _ _ _ _ _ _ _ _ _ c.args.pool.now.shape_is c.requires.step c.requires.can.may,
)

pub returns : goal.returns
returns g c = record { table = c.store.ensures.0; id = c.store.ensures.1; slots = c.store.ensures.2.1; tells = told_as _ _ _ _ _ c.requires.step c.store.ensures.2.0 }
