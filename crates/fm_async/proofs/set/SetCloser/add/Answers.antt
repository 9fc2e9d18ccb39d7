use Rattle.std.proofs.Common.{rules, ◌<◌, List, length, subst, sym, arith}
use Rattle.fm_async.specs.{declared.waiting.Waiting.{Waiting}, Sets.{IsSetCloser, SetView, set_of}}
use Rattle.fm_async.proofs.Closings.{added, refused}
use Rattle.fm_async.proofs.set.SetCloser.add.Goals as goal

pub invariant_of-self : goal.invariant_of-self
invariant_of-self c = ((refused c.self.inside.closes.items c.self.invariant.0 c.in_err-close.ensures).is, c.self.invariant.1)

pub returns-in_err-close : goal.returns-in_err-close
returns-in_err-close c = let h = refused c.self.inside.closes.items c.self.invariant.0 c.in_err-close.ensures in search (rules, h)

pub invariant_of-self-2 : goal.invariant_of-self-2
invariant_of-self-2 c =
    let ws = c.self.inside.closes.items in
    let l : length ws < c.self.inside.room = subst (λ (x : SetView). length x.closes < x.room) (sym c.self.view_is) c.requires.room in (
      subst (λ (us : List Waiting). IsSetCloser (set_of c.self.inside.pool.now c.shut.new.pass c.self.inside.room us)) (sym c.push_reserved.ensures.items)
          (added ws c.self.invariant.0 l c.in_ok-close.ensures).is,
      (let k = c.self.invariant.1 in let e = c.push_reserved.ensures.capacity in omega arith),
    )

pub returns : goal.returns
returns c =
    let ws = c.self.inside.closes.items in
    let l : length ws < c.self.inside.room = subst (λ (x : SetView). length x.closes < x.room) (sym c.self.view_is) c.requires.room in
    let h = added ws c.self.invariant.0 l c.in_ok-close.ensures in
    let e = c.push_reserved.ensures.items in
    search (rules, h, e)
