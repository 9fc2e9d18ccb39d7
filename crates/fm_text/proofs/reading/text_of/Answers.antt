use Rattle.std.proofs.{Common.{◌∙◌, ap, Vec, Global, ℕ}, lemmas.{Bool.{false≢true}, Str.{IsUtf8-string_bytes}}}
use Rattle.std.specs.Str.{valid_up_to}
use Rattle.fm_text.proofs.Fronts.{is_valid_up_to}
use Rattle.fm_text.proofs.reading.text_of.Goals as goal

pub returns-in-Ok : goal.returns-in-Ok
returns-in-Ok c = (ap (λ (v : Vec ℕ Global). v.items) c.in-Ok.ensures.ok, IsUtf8-string_bytes c.in-Ok.text)

pub returns-in-Err : goal.returns-in-Err
returns-in-Err c =
    is_valid_up_to c.args.bytes.items c.valid_up_to.result (c.valid_up_to.ensures ∙ (ap valid_up_to c.utf8_error.ensures ∙ c.in-Err.ensures.valid_len))
    (λ u. false≢true (c.in-Err.ensures.succeeds u))
