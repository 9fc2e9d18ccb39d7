use Rattle.std.{proofs.Common.{◌≡◌, ◌++◌, ◌∙◌, List, ℕ, codes, ap, subst, of_z, to_z, w64, rules}, specs.{Fmt.{signed_decimal}, String.{string_bytes}}}
use Rattle.std.proofs.lemmas.{Int.{to_z-of_z}, List.{append-nil}, Result.{err_from_is_err_and}}
use Rattle.fm_io.{specs.Sending.{Sends}, proofs.Sent.{sent_then}}
use Rattle.fm_records.proofs.writing.send_number.Goals as goal

pub returns-in_err-push_spaced-clause-sends : goal.returns-in_err-push_spaced-clause-sends
returns-in_err-push_spaced-clause-sends g c =
    let p = err_from_is_err_and c.from_residual.result c.from_residual.ensures.1 in
    let number : to_z w64 (of_z w64 c.args.number) ≡ c.args.number = to_z-of_z w64 c.args.number (search (rules, c.ranges.number)) in
    let word = c.format.ensures.text ∙ ap signed_decimal number in
    rw (p.1, p.2, ← word) (c.in_err-push_spaced.ensures (g.O.Sink.view c.args.out.now))

pub returns-clause-sends : goal.returns-clause-sends
returns-clause-sends g c =
    let number : to_z w64 (of_z w64 c.args.number) ≡ c.args.number = to_z-of_z w64 c.args.number (search (rules, c.ranges.number)) in
    let word = c.format.ensures.text ∙ ap signed_decimal number in
    let out = g.O.Sink.view c.args.out.now in
    let to = g.O.Sink.view c.send_piece.new.out in
    let before = string_bytes c.args.text.now in
    let after = string_bytes c.send_piece.new.text in
    subst (λ (t : List ℕ). Sends out to before after t c.send_piece.result)
    (append-nil (codes " " ++ c.format.result.now) ∙ ap (λ text. codes " " ++ text) word)
    (sent_then (c.in_ok-push_spaced.ensures out) c.send_piece.ensures.sends)
