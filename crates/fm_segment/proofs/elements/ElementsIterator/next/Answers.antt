use Rattle.std.proofs.{Common.{◌+◌, arith}, Math.Nat.{mul-le-mul_left}}
use Rattle.fm_segment.proofs.elements.ElementsIterator.next.Goals as goal

-- An element has a byte, so there are no more of them than bytes.
pub overflow_add-self : goal.overflow_add-self
overflow_add-self c =
    let e = c.self.inside in
    omega (arith, mul-le-mul_left (e.next + e.left) c.self.invariant.some)
