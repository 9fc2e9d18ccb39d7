-- The bytes of a name are ASCII, so each is one byte of the text.
use Rattle.std.{proofs.{Common.{◌≡◌, ◌≤◌, ◌∷◌, ◌∙◌, ap, get_or, length, arith}, lemmas.{List.{take_all}, Result.{IfOk-from_err}}}, specs.String.{string_bytes}}
use Rattle.fm_records_query.proofs.Plans.{name_more}
use Rattle.fm_records_query.proofs.printing.name_text.Goals as goal

pub loop-k-preserved : goal.loop-k-preserved
loop-k-preserved c =
    let e = c.as_bytes-byte-items.ensures.bytes in
    name_more c.args.name.now c.loop-k.k c.from.result _ _ _ c.loop-k.invariant (omega (arith, ap length e)) c.as_bytes-byte-items.ensures.name
    (c.from.ensures ∙ ap (λ t. get_or t c.loop-k.k 0) e) c.in_ok-push.ensures.ascii c.in_ok-push.ensures.bytes

pub returns-in_err-text : goal.returns-in_err-text
returns-in_err-text c = IfOk-from_err c.from_residual.result (λ text. string_bytes text ≡ 46 ∷ c.args.name.now) c.from_residual.ensures.0

pub returns-in_err-push : goal.returns-in_err-push
returns-in_err-push c =
    IfOk-from_err c.from_residual-in_err-push.result (λ text. string_bytes text ≡ 46 ∷ c.args.name.now) c.from_residual-in_err-push.ensures.0

pub returns : goal.returns
returns c =
    let most : length c.args.name.now ≤ c.loop-k.k = omega (arith, c.loop-k-test.false, ap length c.as_bytes-byte-items.ensures.bytes) in
    c.loop-k.invariant ∙ ap (λ t. 46 ∷ t) (take_all c.loop-k.k c.args.name.now most)
