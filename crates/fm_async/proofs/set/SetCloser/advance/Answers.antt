use Rattle.std.proofs.Common.{rules, arith}
use Rattle.fm_async.proofs.Closings.{advanced}
use Rattle.fm_async.proofs.set.SetCloser.advance.Goals as goal

pub invariant_of-self : goal.invariant_of-self
invariant_of-self c = (
  (advanced c.self.inside.closes.items c.self.invariant.0 c.advance_all.new.closes.items c.advance_all.ensures.is c.advance_all.ensures.each).is,
  (let l = c.self.invariant.1 in let e = c.advance_all.ensures.capacity in omega arith),
)

pub returns : goal.returns
returns c =
    let h = advanced c.self.inside.closes.items c.self.invariant.0 c.advance_all.new.closes.items c.advance_all.ensures.is c.advance_all.ensures.each in
    search (rules, h)
