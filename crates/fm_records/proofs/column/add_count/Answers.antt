-- All records are added at once.
use Rattle.std.proofs.Common.{◌/◌, ◌∙◌, ap}
use Rattle.fm_records.proofs.Columns.{counted_all}
use Rattle.fm_records.proofs.column.add_count.Goals as goal

pub returns : goal.returns
returns c =
    let count = ap (λ n. n / c.record_size.result) c.size.ensures.size ∙ ap (λ n. c.args.s.now.size / n) c.record_size.ensures.size in
    counted_all c.requires.counted c.args.found.now c.add_records.new.self (c.size.result / c.record_size.result) count c.requires.few c.add_records.ensures
