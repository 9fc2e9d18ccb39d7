use Rattle.std.proofs.{Common.{◌≡◌, ◌+◌, arith, ap, None}, lemmas.Result.{err_from_is_err_and}}
use Rattle.fm_segment_copies.proofs.{Comparing.{compare_goes_on, compare_differs, compare_stops, compare_done}, Learning.{after_compare}}
use Rattle.fm_segment_copies.proofs.Touching.{can_touch_pieces}
use Rattle.fm_segment_copies.proofs.mismatch.mismatch_range.Goals as goal

pub compare_piece-requires : goal.compare_piece-requires
compare_piece-requires g c =
    can_touch_pieces c.loop-left.invariant c.next_piece-piece.result c.requires c.loop-left-test.true c.next_piece-piece.ensures.piece

pub returns-in_err-at : goal.returns-in_err-at
returns-in_err-at g c =
    let p = err_from_is_err_and c.from_residual.result c.from_residual.ensures.1 in
    after_compare c.requires c.compare_piece.ensures.outside (rw (p.1, p.2) (compare_stops c.loop-left.invariant c.next_piece-piece.result
    c.in_err-at.field-0.0 c.loop-left-test.true
    c.next_piece-piece.ensures.value c.in_err-at.ensures.did))

pub returns-in-Some : goal.returns-in-Some
returns-in-Some g c =
    let d = rw c.in-Some.is at c.in_ok-at.ensures.did in
    after_compare c.requires c.compare_piece.ensures.outside (compare_differs c.loop-left.invariant c.next_piece-piece.result
    c.in-Some.at (c.next_piece-piece.result.offset + c.from.result)
    c.loop-left-test.true c.next_piece-piece.ensures.value (ap (λ n. c.next_piece-piece.result.offset + n) c.from.ensures) d)

pub loop-left-preserved : goal.loop-left-preserved
loop-left-preserved g c =
    let none : c.in_ok-at.field-0 ≡ None = c.in_default.is in
    let d = rw none at c.in_ok-at.ensures.did in
    rw c.from-left.ensures (compare_goes_on c.loop-left.invariant c.next_piece-piece.result c.loop-left-test.true c.next_piece-piece.ensures.value
    c.compare_piece.ensures.outside d)

pub returns : goal.returns
returns g c = after_compare c.requires c.loop-left.invariant.outside (compare_done c.loop-left.invariant (let t = c.loop-left-test.false in omega arith))
