use Rattle.std.proofs.{Common.{◌+◌, ◌-◌, ◌≤◌, ◌∷◌, [], length, arith}, lemmas.{List.{length-append}, Result.{err_from_is_err_and}}}
use Rattle.fm_segment_access.{specs.Ranges.{PutsOn}, proofs.{Alone.{AreBytes-slice}, Learnt.{after_put}, PuttingAlone.{pieces_put}, Touching.{can_touch}}}
use Rattle.fm_segment_access.proofs.Putting.{put_lasts, put_refused, put_starts, puts_all, puts_piece_on}
use Rattle.fm_text.proofs.Ending.{are_bytes, small}
use Rattle.fm_text.proofs.zero_ended.put_zero_ended.Goals as goal

pub put_piece-requires-clause-piece : goal.put_piece-requires-clause-piece
put_piece-requires-clause-piece g c =
    let i = c.loop-at.invariant in
    let p = c.piece_width-width.ensures in
    let e = p.before_end in
    can_touch c.loop-at.at c.piece_width-width.result c.requires.known c.requires.given (put_lasts i) i.outside p.some p.within (omega arith)

pub put_piece-requires-clause-fits : goal.put_piece-requires-clause-fits
put_piece-requires-clause-fits g c =
    let i = c.loop-at.invariant in
    let p = c.piece_width-width.ensures in
    let e = p.before_end in
    let a = i.above in
    let within : c.loop-at.at - c.args.place + c.piece_width-width.result ≤ length c.args.bytes.now + 1 = omega arith in
    small c.args.bytes.now (c.loop-at.at - c.args.place) c.piece_width-width.result c.part_at-part.result
    (AreBytes-slice c.args.bytes.now c.type_inv.bytes) within c.part_at-part.ensures

pub returns-in_err-put_piece : goal.returns-in_err-put_piece
returns-in_err-put_piece g c =
    let p = err_from_is_err_and c.from_residual.result c.from_residual.ensures.1 in
    after_put pieces_put {new = g.M.Memory.view c.put_piece.new.m} c.requires.outside c.requires.known
    (are_bytes c.args.bytes.now (AreBytes-slice c.args.bytes.now c.type_inv.bytes))
    (rw (p.1, p.2) (put_refused c.loop-at.invariant c.in_err-put_piece.field-0.0 c.loop-at-test.true c.in_err-put_piece.ensures.did))

pub returns : goal.returns
returns g c =
    after_put pieces_put c.requires.outside c.requires.known (are_bytes c.args.bytes.now (AreBytes-slice c.args.bytes.now c.type_inv.bytes))
    (puts_all c.loop-at.invariant (let f = c.loop-at-test.false in omega arith) (omega (arith, length-append c.args.bytes.now (0 ∷ []))))

pub loop-at-init : goal.loop-at-init
loop-at-init g c = put_starts PutsOn (omega (arith, length-append c.args.bytes.now (0 ∷ []))) c.requires.outside

pub loop-at-preserved : goal.loop-at-preserved
loop-at-preserved g c =
    rw c.from-at.ensures (puts_piece_on c.loop-at.invariant c.piece_width-width.result c.part_at-part.result c.loop-at-test.true
    c.piece_width-width.ensures.value c.part_at-part.ensures c.put_piece.ensures.outside c.in_ok-put_piece.ensures.did)
