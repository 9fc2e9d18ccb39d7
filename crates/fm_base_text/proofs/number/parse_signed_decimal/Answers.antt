use Rattle.std.{proofs.Common.{◌<◌, ◌^◌, ◌∙◌, ap}, specs.{Prelude.{ℤ}, Fmt.{signed_decimal}, Int.Signed.{mag}}}
use Rattle.fm_base_text.proofs.Spelling.{misspelled, parsed_held, reads_signed, unread}
use Rattle.fm_base_text.proofs.number.parse_signed_decimal.Goals as goal

pub returns-in_default-clause-none : goal.returns-in_default-clause-none
returns-in_default-clause-none c =
    misspelled signed_decimal (λ (n : ℤ). mag n < 2 ^ 63) c.args.word.now c.parse.result
    (reads_signed c.args.word.now c.parse.result c.parse.ensures.value.0) c.format.result.now c.in-Ok.n c.eq.result c.in-Ok.is
    (c.format.ensures.text ∙ ap signed_decimal (parsed_held c.args.word.now c.parse.result c.in-Ok.n c.parse.ensures.value.0 c.in-Ok.is)) c.eq.ensures
    c.if-eq.false

pub returns-in_default-2-clause-none : goal.returns-in_default-2-clause-none
returns-in_default-2-clause-none c =
    unread signed_decimal (λ (n : ℤ). mag n < 2 ^ 63) c.args.word.now c.parse.result
    (reads_signed c.args.word.now c.parse.result c.parse.ensures.value.0) c.in_default.field-0 c.in_default.is
