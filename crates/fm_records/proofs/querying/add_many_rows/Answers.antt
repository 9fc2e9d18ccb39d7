-- There are no values, or they are added.
use Rattle.std.{proofs.Common.{◌∷◌, [], refl}, specs.List.{range_with_len}}
use Rattle.fm_records.{specs.Values.{index_lists}, proofs.{Items.{none_open}, Reaching.{none_led}}}
use Rattle.fm_records.proofs.querying.add_many_rows.Goals as goal

pub returns-then-has_no_values : goal.returns-then-has_no_values
returns-then-has_no_values g c =
    let row = c.args.row.now in
    let none = none_led (index_lists c.args.dims.now) (range_with_len 0 row.dim.bound) (c.if-has_no_values.ensures.none refl) in
    ([], none_open row.place row.at (row.dim ∷ c.args.dims.now) row.value.now c.args.found.now none)
