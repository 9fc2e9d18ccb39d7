use Rattle.std.proofs.{Common.{List, ℕ, ap, drop, subst, take, ◌∙◌}, lemmas.{List.{append-nil}, Result.{err_from_is_err_and}}}
use Rattle.std.specs.String.{string_bytes}
use Rattle.fm_io.{proofs.Sent.{not_pushed, pushed, sent_then}, specs.Sending.{Sends}}
use Rattle.fm_text.specs.Texts.{text_bytes}
use Rattle.fm_top_texts.{proofs.Found.{text_is}, specs.Lines.{line_text}}
use Rattle.fm_top_texts.proofs.writing.send_text.Goals as goal

pub returns-in_err-push_line-clause-sends : goal.returns-in_err-push_line-clause-sends
returns-in_err-push_line-clause-sends g c =
    let p = err_from_is_err_and c.from_residual.result c.from_residual.ensures.1 in
    rw (p.1, p.2) (not_pushed _ _ _ _)

pub returns-clause-sends : goal.returns-clause-sends
returns-clause-sends g c =
    let bytes = take c.args.size (drop c.args.place c.args.loaded.now) in
    let is = text_is bytes (text_bytes c.text.result) (c.text.ensures.text c.in_ok-push_line.ensures.known) in
    let out = g.O.Sink.view c.args.out.now in
    subst (λ (t : List ℕ). Sends out (g.O.Sink.view c.send_piece.new.out) (string_bytes c.args.pending.now) (string_bytes c.send_piece.new.text) t c.send_piece.result)
    (append-nil (line_text (text_bytes c.text.result)) ∙ ap line_text is)
    (sent_then (pushed out _ _ _ c.in_ok-push_line.ensures.line) c.send_piece.ensures.sends)
