use Rattle.std.proofs.Common.{◌∙◌, sym, rules}
use Rattle.fm_layout.proofs.Names.{name_iff}
use Rattle.fm_layout.proofs.name.is_name.Goals as goal

pub returns-then-is_letter : goal.returns-then-is_letter
returns-then-is_letter c =
    rw (← c.as_bytes-bytes.ensures.value)
    (name_iff c.as_bytes-bytes.result.now c.is_name_end.result (search rules) c.if-bytes-gt-LONGEST.false (sym c.if-is_letter.true
    ∙ c.is_letter.ensures) c.is_name_end.ensures)
