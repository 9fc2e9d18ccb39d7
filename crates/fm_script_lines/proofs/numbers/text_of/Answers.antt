use Rattle.std.{proofs.Common.{sym, subst}, specs.Str.{IsUtf8}}
use Rattle.fm_script_text.proofs.Plain.{utf8_name}
use Rattle.fm_script_lines.proofs.numbers.text_of.Goals as goal

pub returns-in-Err : goal.returns-in-Err
returns-in-Err c =
    absurd (c.in-Err.ensures.cases.0 (subst IsUtf8 (sym c.as_bytes.ensures.bytes) (utf8_name c.args.name.now c.as_bytes.ensures.name)))
