use Rattle.std.proofs.Common.{◌%◌, sym, subst, arith}
use Rattle.fm_path_meaning.specs.Steady.{IsSteady}
use Rattle.fm_group.{specs.Values.{indices_at}, proofs.Rows.{behind, is_row, no_dim, row_offset}}
use Rattle.fm_c_calls.proofs.values.+offset_of.Goals as goal

pub reach_of-requires : goal.reach_of-requires
reach_of-requires t c =
    (is_row c.args.at c.args.n c.args.dims.now no_dim c.count_values-behind.result c.in-len1-up.len_at_least c.requires.below c.requires.few c.requires.steady
    c.count_values-behind.ensures).inside

pub nonzero_rem-n : goal.nonzero_rem-n
nonzero_rem-n t c =
    (is_row c.args.at c.args.n c.args.dims.now no_dim c.count_values-behind.result c.in-len1-up.len_at_least c.requires.below c.requires.few c.requires.steady
    c.count_values-behind.ensures).some

pub offset_of-requires : goal.offset_of-requires
offset_of-requires t c =
    let r = is_row c.args.at c.args.n c.args.dims.now no_dim c.count_values-behind.result c.in-len1-up.len_at_least c.requires.below c.requires.few c.requires.steady
    c.count_values-behind.ensures in
    (omega (arith, c.decreases), (r.below, (r.few, subst (λ k. IsSteady k (behind c.args.dims.now) (indices_at (behind c.args.dims.now) (c.args.n % c.count_values-behind.result))) (sym c.reach_of.ensures) r.steady)))

pub returns-in-len1-up : goal.returns-in-len1-up
returns-in-len1-up t c =
    let r = is_row c.args.at c.args.n c.args.dims.now no_dim c.count_values-behind.result c.in-len1-up.len_at_least c.requires.below c.requires.few c.requires.steady
    c.count_values-behind.ensures in
    row_offset c.args.at c.args.n c.args.dims.now no_dim c.count_values-behind.result c.offset_of.result c.reach_of.result c.in-len1-up.len_at_least r c.reach_of.ensures c.offset_of.ensures
