use Rattle.std.proofs.lemmas.Result.{err_from_is_err_and}
use Rattle.fm_io.proofs.Sent.{not_pushed}
use Rattle.fm_records.proofs.writing.push_spaced.Goals as goal

pub returns-in_err-push : goal.returns-in_err-push
returns-in_err-push c out =
    let p = err_from_is_err_and c.from_residual.result c.from_residual.ensures.1 in
    rw (p.1, p.2) (not_pushed out _ _ _)

pub returns-in_err-push_str : goal.returns-in_err-push_str
returns-in_err-push_str c out =
    let p = err_from_is_err_and c.from_residual-in_err-push_str.result c.from_residual-in_err-push_str.ensures.1 in
    rw (p.1, p.2) (not_pushed out _ _ _)
