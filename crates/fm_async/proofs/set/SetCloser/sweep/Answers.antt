use Rattle.std.proofs.Common.{rules, arith}
use Rattle.fm_async.proofs.Closings.{swept}
use Rattle.fm_async.proofs.set.SetCloser.sweep.Goals as goal

pub invariant_of-self : goal.invariant_of-self
invariant_of-self c = (
  (swept c.self.inside.closes.items c.self.invariant.0 c.sweep_all.new.closes.items c.sweep_all.ensures.empty c.sweep_all.ensures.is c.sweep_all.ensures.sweeps).is,
  (let l = c.self.invariant.1 in let e = c.sweep_all.ensures.capacity in omega arith),
)

pub returns : goal.returns
returns c =
    let h = swept c.self.inside.closes.items c.self.invariant.0 c.sweep_all.new.closes.items c.sweep_all.ensures.empty c.sweep_all.ensures.is c.sweep_all.ensures.sweeps in
    search (rules, h)
