use Rattle.std.proofs.lemmas.Result.{err_from_is_err_and}
use Rattle.fm_segment_access.proofs.Touching.{touch_again, visited}
use Rattle.fm_segment_copies.{specs.Comparisons.{ComparesPiece}, proofs.{Comparing.{compared, read_fits}, Stopping.{stopped_first, stopped_second}}}
use Rattle.fm_segment_copies.proofs.mismatch.compare_piece.Goals as goal

pub returns-in_err-v : goal.returns-in_err-v
returns-in_err-v g c =
    let p = err_from_is_err_and c.from_residual.result c.from_residual.ensures.1 in
    rw (p.1, p.2) (visited (stopped_first c.args.first c.args.second c.args.piece
    (ComparesPiece (g.M.Memory.view c.args.m.now).caller c.args.first c.args.second c.args.piece)
    c.in_err-v.field-0.0 c.requires.may_use.0 c.in_err-v.ensures.did) c.get_piece.ensures.outside)

pub returns-in_err-w : goal.returns-in_err-w
returns-in_err-w g c =
    let p = err_from_is_err_and c.from_residual-in_err-w.result c.from_residual-in_err-w.ensures.1 in
    rw (p.1, p.2) (visited (stopped_second c.args.first c.args.second c.args.piece
    (ComparesPiece (g.M.Memory.view c.args.m.now).caller c.args.first c.args.second c.args.piece)
    c.in_ok-v.v c.in_err-w.field-0.0 c.requires.may_use.1 c.in_ok-v.ensures.did c.in_err-w.ensures.did)
    c.get_piece-2.ensures.outside)

pub returns : goal.returns
returns g c =
    visited (compared c.args.first c.args.second c.args.piece c.in_ok-v.v c.in_ok-w.w c.in_ok-v.ensures.did c.in_ok-w.ensures.did c.first_difference.ensures)
    c.get_piece-2.ensures.outside

pub get_piece-requires-2 : goal.get_piece-requires-2
get_piece-requires-2 g c = touch_again c.requires.second c.get_piece.ensures

pub first_difference-requires-clause-first : goal.first_difference-requires-clause-first
first_difference-requires-clause-first g c = read_fits c.args.first c.args.piece c.in_ok-v.v c.in_ok-v.ensures.did

pub first_difference-requires-clause-second : goal.first_difference-requires-clause-second
first_difference-requires-clause-second g c = read_fits c.args.second c.args.piece c.in_ok-w.w c.in_ok-w.ensures.did
