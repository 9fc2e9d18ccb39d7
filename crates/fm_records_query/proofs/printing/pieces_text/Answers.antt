-- The pieces stand one after the other.
use Rattle.std.{proofs.{Common.{◌≡◌, ◌∙◌, ap, ◌++◌}, lemmas.{List.{take_all}, Result.{IfOk-from_err}}}, specs.String.{string_bytes}}
use Rattle.fm_path_text.specs.Grammar.{pieces_of}
use Rattle.fm_records_query.proofs.Plans.{pieces_more}
use Rattle.fm_records_query.proofs.printing.pieces_text.Goals as goal

pub loop-k-preserved : goal.loop-k-preserved
loop-k-preserved c =
    pieces_more c.args.path.now c.loop-k.k c.index-path-k.result _ (string_bytes c.in_ok-piece.piece) _ c.loop-k.invariant c.loop-k-test.true
    c.index-path-k.is c.in_ok-piece.ensures
    (c.in_ok-push_str.ensures.bytes ∙ ap (λ t. string_bytes c.loop-k.text ++ t) c.deref.ensures)

pub returns-in_err-piece : goal.returns-in_err-piece
returns-in_err-piece c = IfOk-from_err c.from_residual.result (λ text. string_bytes text ≡ pieces_of c.args.path.now) c.from_residual.ensures.0

pub returns-in_err-push_str : goal.returns-in_err-push_str
returns-in_err-push_str c =
    IfOk-from_err c.from_residual-in_err-push_str.result (λ text. string_bytes text ≡ pieces_of c.args.path.now) c.from_residual-in_err-push_str.ensures.0

pub returns : goal.returns
returns c = c.loop-k.invariant ∙ ap pieces_of (take_all c.loop-k.k c.args.path.now c.loop-k-test.false)
