use Rattle.std.proofs.Common.{◌≡◌, false, refl}
use Rattle.fm_async.specs.Borrows.{borrow_of}
use Rattle.fm_async.proofs.Ends.{come_on}
use Rattle.fm_async.proofs.borrowed.BorrowedCloser.is_blocked.Goals as goal

pub invariant_of-self : goal.invariant_of-self
invariant_of-self g c =
    let e : c.self.inside.close.ended ≡ false = cc in
    come_on g.O.Origin.start (borrow_of c.self.inside.pool.now c.self.inside.borrow.pass c.self.inside.close) _ refl refl e c.advance.ensures.visited
    c.self.invariant
