use Rattle.std.proofs.Common.{◌+◌, ◌<◌, length, refl, sym, ◌∙◌, arith}
use Rattle.fm_text.proofs.Setting.{is_shut, no_slice, set_refused}
use Rattle.fm_text.proofs.texts.set_text.Goals as goal

pub returns-then-is_read_only : goal.returns-then-is_read_only
returns-then-is_read_only g c =
    let some : 0 < length c.args.text.now + 1 = omega arith in
    set_refused c.args.offset c.args.text.now c.requires
    (is_shut c.args.s.now c.args.offset (length c.args.text.now + 1) some (sym c.is_read_only.ensures ∙ c.if-is_read_only.true)) refl

pub returns-in_err-to : goal.returns-in_err-to
returns-in_err-to g c =
    set_refused c.args.offset c.args.text.now c.requires
    (no_slice c.args.s.now c.args.offset (length c.args.text.now + 1) c.in_err-to.field-0.0 (sym c.is_read_only.ensures ∙ c.if-is_read_only.false)
    (sym c.as_slice.ensures ∙ c.in_err-to.was)) c.from_residual.ensures.1
