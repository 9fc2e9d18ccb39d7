-- A column's values are added as those of a row.
use Rattle.std.proofs.Common.{◌/◌, ap, ◌∙◌}
use Rattle.fm_records.proofs.Columns.{column_added, column_can, stride_is}
use Rattle.fm_records.proofs.column.add_column.Goals as goal

pub add_row-requires : goal.add_row-requires
add_row-requires g c =
    let size = c.record_size-size in
    let count = ap (λ n. n / size.result) c.size.ensures.size ∙ ap (λ n. c.args.s.now.size / n) size.ensures.size in
    rw c.first.ensures.first
    (column_can c.requires.column c.args.found.now c.offset.ensures c.value.ensures
    (stride_is size.result c.args.q.now.size c.cast_signed.result size.ensures.size size.ensures.plan.small c.cast_signed.ensures) count c.requires.few
    c.requires.can)

pub returns : goal.returns
returns g c =
    let size = c.record_size-size in
    let count = ap (λ n. n / size.result) c.size.ensures.size ∙ ap (λ n. c.args.s.now.size / n) size.ensures.size in
    column_added c.requires.column c.args.found.now c.offset.ensures c.value.ensures
    (stride_is size.result c.args.q.now.size c.cast_signed.result size.ensures.size size.ensures.plan.small c.cast_signed.ensures) count c.requires.few
    c.add_row.new.found c.add_row.result (rw c.first.ensures.first at c.add_row.ensures)
