use Rattle.std.proofs.{Common.{◌<◌, ◌+◌, arith, ap, replicate, sym}, lemmas.{List.{length-replicate}, Result.{err_from_is_err_and}}}
use Rattle.fm_segment_access.{specs.Ranges.{PutsOn}, proofs.{Filling.{AreBytes-replicate, fills_on}, Learnt.{after_no_bytes, after_bytes}}}
use Rattle.fm_segment_access.proofs.{Putting.{put_lasts, put_refused, put_starts, puts_all}, PuttingAlone.{pieces_put}, Touching.{can_touch}}
use Rattle.fm_segment_access.proofs.range.fill.Goals as goal

pub returns-then-size-eq0 : goal.returns-then-size-eq0
returns-then-size-eq0 g c =
    let none = c.if-size-eq0.true in
    after_no_bytes PutsOn c.args.size (replicate c.args.size c.args.byte) c.requires none (ap (λ n. replicate n c.args.byte) none)

pub put_piece-requires-clause-piece : goal.put_piece-requires-clause-piece
put_piece-requires-clause-piece g c =
    let i = c.loop-at.invariant in
    let p = c.piece_width-width.ensures in
    can_touch c.loop-at.at c.piece_width-width.result c.requires.known c.requires.given (put_lasts i) i.outside p.some p.within p.before_end

pub returns-in_err-put_piece : goal.returns-in_err-put_piece
returns-in_err-put_piece g c =
    let p = err_from_is_err_and c.from_residual.result c.from_residual.ensures.1 in
    let some : 0 < c.args.size = (let f = c.if-size-eq0.false in omega arith) in
    after_bytes pieces_put c.args.size c.requires some (AreBytes-replicate c.args.size c.args.byte (omega arith))
    (rw (p.1, p.2) (put_refused c.loop-at.invariant c.in_err-put_piece.field-0.0 c.loop-at-test.true c.in_err-put_piece.ensures.did))

pub returns : goal.returns
returns g c =
    let some : 0 < c.args.size = (let f = c.if-size-eq0.false in omega arith) in
    after_bytes pieces_put c.args.size c.requires some (AreBytes-replicate c.args.size c.args.byte (omega arith))
    (puts_all c.loop-at.invariant (let f = c.loop-at-test.false in omega arith) (rw length-replicate some))

pub loop-at-init : goal.loop-at-init
loop-at-init g c = put_starts PutsOn (ap (λ n. c.args.place + n) (sym (length-replicate c.args.size c.args.byte))) c.requires.outside

pub loop-at-preserved : goal.loop-at-preserved
loop-at-preserved g c =
    rw c.from-at.ensures (fills_on c.args.size c.args.byte c.loop-at.invariant c.word_of-word.result c.piece_width-width.result c.read-part.result
    c.word_of-word.ensures c.loop-at-test.true c.piece_width-width.ensures.value c.read-part.ensures c.put_piece.ensures.outside c.in_ok-put_piece.ensures.did)
