use Rattle.std.proofs.{Common.{arith}, lemmas.Result.{err_from_is_err_and}}
use Rattle.fm_segment_copies.proofs.{Copying.{copy_goes_on, copy_stops, copy_done}, Learning.{after_copy, copy_refused}}
use Rattle.fm_segment_copies.proofs.Touching.{can_touch_pieces, way_starts}
use Rattle.fm_segment_copies.proofs.copy.copy_range.Goals as goal

pub copy_piece-requires : goal.copy_piece-requires
copy_piece-requires g c =
    can_touch_pieces c.loop-left.invariant c.next_piece-piece.result c.requires c.loop-left-test.true c.next_piece-piece.ensures.piece

pub returns-in_err-copy_piece : goal.returns-in_err-copy_piece
returns-in_err-copy_piece g c =
    let p = err_from_is_err_and c.from_residual.result c.from_residual.ensures.1 in
    after_copy c.requires c.copy_piece.ensures.outside (rw (p.1, p.2) (copy_stops c.loop-left.invariant c.next_piece-piece.result
    c.in_err-copy_piece.field-0.0 c.way_of-way.ensures
    c.loop-left-test.true c.next_piece-piece.ensures.value c.in_err-copy_piece.ensures.did))

pub returns : goal.returns
returns g c =
    after_copy c.requires c.loop-left.invariant.outside
    (copy_done c.loop-left.invariant c.way_of-way.ensures (let t = c.loop-left-test.false in omega arith))

pub returns-then-is_wrong_thread : goal.returns-then-is_wrong_thread
returns-then-is_wrong_thread g c = copy_refused c.requires (c.is_wrong_thread.ensures.yes c.if-is_wrong_thread.true)

pub loop-left-init : goal.loop-left-init
loop-left-init g c = way_starts (c.is_wrong_thread.ensures.no c.if-is_wrong_thread.false) c.requires.outside

pub loop-left-preserved : goal.loop-left-preserved
loop-left-preserved g c =
    rw c.from-left.ensures (copy_goes_on c.loop-left.invariant c.next_piece-piece.result c.loop-left-test.true c.next_piece-piece.ensures.value
    c.copy_piece.ensures.outside c.in_ok-copy_piece.ensures.did)
