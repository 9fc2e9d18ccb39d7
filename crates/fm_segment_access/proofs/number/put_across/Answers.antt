use Rattle.std.proofs.{Common.{◌+◌, ◌≤◌, ◌∙◌, arith, ap, sym}, lemmas.Result.{err_from_is_err_and}}
use Rattle.fm_base_bytes.proofs.Bytes.{length-bytes_of}
use Rattle.fm_segment_access.{specs.Ranges.{PutsOn}, proofs.{Putting.{put_lasts, put_refused, put_starts, puts_all, puts_number_on}, Touching.{can_touch}}}
use Rattle.fm_segment_access.proofs.number.put_across.Goals as goal

pub put_piece-requires-clause-piece : goal.put_piece-requires-clause-piece
put_piece-requires-clause-piece g c =
    let i = c.loop-at.invariant in
    let p = c.piece_width-piece.ensures in
    let below : c.loop-at.at + c.piece_width-piece.result ≤ c.args.place + c.args.width = (let e = c.from.ensures in let b = p.before_end in omega arith) in
    can_touch c.loop-at.at c.piece_width-piece.result c.requires.known c.requires.given (put_lasts i) i.outside p.some p.within below

pub returns-in_err-put_piece : goal.returns-in_err-put_piece
returns-in_err-put_piece g c =
    let p = err_from_is_err_and c.from_residual.result c.from_residual.ensures.1 in
    rw (p.1, p.2) (put_refused c.loop-at.invariant c.in_err-put_piece.field-0.0 c.loop-at-test.true c.in_err-put_piece.ensures.did)

pub returns : goal.returns
returns g c =
    puts_all c.loop-at.invariant (let f = c.loop-at-test.false in omega arith)
    (let s = c.requires.some in omega (arith, length-bytes_of c.args.width c.args.number))

pub loop-at-init : goal.loop-at-init
loop-at-init g c =
    put_starts PutsOn (ap (λ n. c.args.place + n) (c.from.ensures ∙ sym (length-bytes_of c.args.width c.args.number))) c.requires.outside

pub loop-at-preserved : goal.loop-at-preserved
loop-at-preserved g c =
    rw c.from-at.ensures (puts_number_on c.args.width c.args.number c.loop-at.invariant c.piece_width-piece.result c.read-part.result
    c.loop-at-test.true c.piece_width-piece.ensures.value c.read-part.ensures c.put_piece.ensures.outside c.in_ok-put_piece.ensures.did)
