use Rattle.std.proofs.{Common.{List}, lemmas.Result.{err_from_is_err_and}}
use Rattle.fm_base.specs.Calls.{Entry}
use Rattle.fm_segment_access.proofs.Touching.{visited}
use Rattle.fm_segment_copies.{specs.Copies.{CopiesPiece}, proofs.{Copying.{put_then}, Stopping.{stopped_first}}}
use Rattle.fm_segment_copies.proofs.copy.copy_piece.Goals as goal

pub returns-in_err-v : goal.returns-in_err-v
returns-in_err-v g c =
    let p = err_from_is_err_and c.from_residual.result c.from_residual.ensures.1 in
    let a = c.args.from in
    let b = c.args.to in
    let Copies = λ (u : Unit {0}) (own : List Entry). CopiesPiece (g.M.Memory.view c.args.m.now).caller a b c.args.piece own in
    rw (p.1, p.2) (visited (stopped_first a b c.args.piece Copies c.in_err-v.field-0.0 c.requires.may_use.0 c.in_err-v.ensures.did) c.get_piece.ensures.outside)

pub returns : goal.returns
returns g c =
    visited (put_then c.args.from c.args.to c.args.piece c.in_ok-v.v c.put_piece.result c.requires.may_use.1 c.in_ok-v.ensures.did c.put_piece.ensures.did)
    c.put_piece.ensures.outside
