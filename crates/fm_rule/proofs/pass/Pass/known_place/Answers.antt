use Rattle.std.proofs.Common.{arith}
use Rattle.fm_rule.proofs.Knowing.{known_place, place_now}
use Rattle.fm_rule.proofs.pass.Pass.known_place.Goals as goal

pub overflow_add-result : goal.overflow_add-result
overflow_add-result c =
    let p = known_place c.self.inside.seat.me.0 _ _ c.self.invariant.sound c.self.invariant.last.known c.if-part-word.true c.if-word-part.true in
    let small = p.small in omega arith

pub returns-then-word-part : goal.returns-then-word-part
returns-then-word-part c =
    place_now _ c.self.inside.seat.me.0 _ _ _ c.self.view_is
    (known_place c.self.inside.seat.me.0 _ _ c.self.invariant.sound c.self.invariant.last.known c.if-part-word.true c.if-word-part.true).place

pub overflow_add-result-then-word-other : goal.overflow_add-result-then-word-other
overflow_add-result-then-word-other c =
    let p = known_place c.self.inside.seat.me.0 _ _ c.self.invariant.sound c.self.invariant.other.known c.if-other-word.true c.if-word-other.true in
    let small = p.small in omega arith

pub returns-then-word-other : goal.returns-then-word-other
returns-then-word-other c =
    place_now _ c.self.inside.seat.me.0 _ _ _ c.self.view_is
    (known_place c.self.inside.seat.me.0 _ _ c.self.invariant.sound c.self.invariant.other.known c.if-other-word.true c.if-word-other.true).place
