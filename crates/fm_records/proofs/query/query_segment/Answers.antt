-- A query's tests come first, and then its records.
use Rattle.std.proofs.{Common.{◌∙◌, refl, arith}, lemmas.{List.{take_at}, Result.{err_from_is_err_and}}}
use Rattle.fm_records.proofs.{Learning.{queried}, Recording.{query_wants, query_done, query_stopped, tested}}
use Rattle.fm_records.proofs.query.query_segment.Goals as goal

pub returns-in_err-of_no_records : goal.returns-in_err-of_no_records
returns-in_err-of_no_records g c =
    let t = tested c.size.ensures.size c.record_size.ensures.size c.arena.ensures c.if-rest-ne0.false (c.if-not-may_use.ensures.yes refl) in
    let p = err_from_is_err_and c.from_residual.result c.from_residual.ensures.1 in
    rw (p.1, p.2) (queried c.requires c.record_size.ensures.plan (query_wants c.in_err-of_no_records.field-0.0 t c.in_err-of_no_records.ensures.memory))

pub returns-in_err-add_records : goal.returns-in_err-add_records
returns-in_err-add_records g c =
    let t = tested c.size.ensures.size c.record_size.ensures.size c.arena.ensures c.if-rest-ne0.false (c.if-not-may_use.ensures.yes refl) in
    let p = err_from_is_err_and c.from_residual-in_err-add_records.result c.from_residual-in_err-add_records.ensures.1 in
    rw (p.1, p.2)
    (queried c.requires c.record_size.ensures.plan
    (query_stopped t c.as_mut_slice.result.now c.add_records.new.found
    (c.as_mut_slice.ensures.value ∙ c.into_found-found.ensures ∙ c.in_ok-of_no_records.ensures.answer) c.in_err-add_records.field-0.0
    c.in_err-add_records.ensures))

pub returns : goal.returns
returns g c =
    let t = tested c.size.ensures.size c.record_size.ensures.size c.arena.ensures c.if-rest-ne0.false (c.if-not-may_use.ensures.yes refl) in
    queried c.requires c.record_size.ensures.plan
    (query_done t c.as_mut_slice.result.now c.add_records.new.found
    (c.as_mut_slice.ensures.value ∙ c.into_found-found.ensures ∙ c.in_ok-of_no_records.ensures.answer) c.of.result c.in_ok-add_records.field-0
    (c.of.ensures ∙ take_at c.add_records.new.found _ c.into_found-found.result.len
    (omega (arith, c.add_records.auto.found, c.as_mut_slice.ensures.len, c.into_found-found.result.ok.0)))
    c.in_ok-add_records.ensures)
