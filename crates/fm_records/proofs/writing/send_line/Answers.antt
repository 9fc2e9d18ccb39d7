use Rattle.std.proofs.lemmas.Result.{err_from_is_err_and}
use Rattle.fm_io.proofs.Sent.{pushed, not_pushed, sent_then, sent_stop}
use Rattle.fm_records.proofs.writing.send_line.Goals as goal

pub returns-in_err-send_found-clause-sends : goal.returns-in_err-send_found-clause-sends
returns-in_err-send_found-clause-sends g c =
    let p = err_from_is_err_and c.from_residual-in_err-send_found.result c.from_residual-in_err-send_found.ensures.1 in
    rw (p.1, p.2, ← c.as_str.ensures) (sent_then (pushed _ _ _ _ c.in_ok-push_str.ensures.bytes) (sent_stop _ c.in_err-send_found.ensures))

pub returns-in_err-push-clause-sends : goal.returns-in_err-push-clause-sends
returns-in_err-push-clause-sends g c =
    let p = err_from_is_err_and c.from_residual-in_err-push.result c.from_residual-in_err-push.ensures.1 in
    rw (p.1, p.2, ← c.as_str.ensures)
    (sent_then (pushed _ _ _ _ c.in_ok-push_str.ensures.bytes) (sent_then c.in_ok-send_found.ensures (not_pushed _ _ _ _)))

pub returns-in_err-push_str-clause-sends : goal.returns-in_err-push_str-clause-sends
returns-in_err-push_str-clause-sends g c =
    let p = err_from_is_err_and c.from_residual.result c.from_residual.ensures.1 in
    rw (p.1, p.2) (not_pushed _ _ _ _)

pub returns-clause-sends : goal.returns-clause-sends
unfolding lib.Utf8.encode
returns-clause-sends g c =
    rw (← c.as_str.ensures)
    (sent_then (pushed _ _ _ _ c.in_ok-push_str.ensures.bytes)
    (sent_then c.in_ok-send_found.ensures (sent_then (pushed _ _ _ _ c.in_ok-push.ensures.bytes) c.send_piece.ensures.sends)))
