-- Each byte takes the reader on as the definition says; a byte where it dies, or a stage that isn't whole, ends the longest prefix.
use Rattle.std.proofs.Common.{◌∙◌, ap, get_or, length, sym, arith}
use Rattle.fm_records_query.proofs.Reading.{stays, ends_at, is_found, ends_all}
use Rattle.fm_records_query.proofs.parse.read.Goals as goal

pub returns-in-None-clause-refused : goal.returns-in-None-clause-refused
returns-in-None-clause-refused c =
    let e = c.as_bytes-byte-items.ensures.value in
    ends_at _ _ _ _ c.loop-at.invariant (omega (arith, ap length e)) (ap (λ t. get_or t c.loop-at.at 0) e)
    (sym c.in-None.is ∙ c.in_ok-to.ensures)

pub loop-at-preserved : goal.loop-at-preserved
loop-at-preserved c =
    let e = c.as_bytes-byte-items.ensures.value in
    stays _ _ _ _ _ c.loop-at.invariant (omega (arith, ap length e)) (ap (λ t. get_or t c.loop-at.at 0) e)
    (sym c.in-Some.is ∙ c.in_ok-to.ensures)

pub returns-in-Some-2-clause-query : goal.returns-in-Some-2-clause-query
returns-in-Some-2-clause-query c =
    is_found _ _ _ _ c.loop-at.invariant (omega (arith, ap length c.as_bytes-byte-items.ensures.value))
    (sym c.in-Some-2.is ∙ c.in_ok-query.ensures)

pub returns-in-None-2-clause-refused : goal.returns-in-None-2-clause-refused
returns-in-None-2-clause-refused c =
    ends_all _ _ _ c.loop-at.invariant (omega (arith, ap length c.as_bytes-byte-items.ensures.value))
    (sym c.in-None-2.is ∙ c.in_ok-query.ensures)
