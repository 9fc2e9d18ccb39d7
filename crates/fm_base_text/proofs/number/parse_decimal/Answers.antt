use Rattle.std.{proofs.Common.{◌<◌, ◌^◌, ℕ}, specs.Fmt.{decimal}}
use Rattle.fm_base_text.proofs.Spelling.{misspelled, reads, unread}
use Rattle.fm_base_text.proofs.number.parse_decimal.Goals as goal

pub returns-in_default-clause-none : goal.returns-in_default-clause-none
returns-in_default-clause-none c =
    misspelled decimal (λ (n : ℕ). n < 2 ^ 64) c.args.word.now c.parse.result
    (reads c.args.word.now c.parse.result c.parse.ensures.value.0)
    c.format.result.now c.in-Ok.n c.eq.result c.in-Ok.is c.format.ensures.text c.eq.ensures c.if-eq.false

pub returns-in_default-2-clause-none : goal.returns-in_default-2-clause-none
returns-in_default-2-clause-none c =
    unread decimal (λ (n : ℕ). n < 2 ^ 64) c.args.word.now c.parse.result
    (reads c.args.word.now c.parse.result c.parse.ensures.value.0)
    c.in_default.field-0 c.in_default.is
