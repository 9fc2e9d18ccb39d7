use Rattle.std.proofs.{Common.{rules, ◌≡◌, ◌+◌, ◌*◌, ◌/◌, ◌%◌, ◌^◌, ℕ, List, sym, ap, subst, ◌∙◌, arith}, lemmas.Int.{to_z-of_z}}
use Rattle.std.specs.Int.{w64}
use Rattle.fm_lanes.specs.Kind.{width_of}
use Rattle.fm_path.specs.declared.value_spec.ValueSpec.{ValueSpec}
use Rattle.fm_path_meaning.specs.{declared.dim.Dim.{Dim}, Steady.{IsSteady}}
use Rattle.fm_records.specs.Values.{number_there}
use Rattle.fm_records_query.specs.Plan.{value_count}
use Rattle.fm_group.specs.Values.{indices_at}
use Rattle.fm_c_calls.proofs.Valued.{each_is, lies_there, stands_at, steady_there}
use Rattle.fm_c_calls.proofs.values.number_of.Goals as goal

pub offset_of-offset-requires-clause-steady : goal.offset_of-offset-requires-clause-steady
offset_of-offset-requires-clause-steady c =
    let n = c.args.n in
    let dims : c.as_slice-dims.result.now ≡ c.args.path.now.dims = c.as_slice-dims.ensures ∙ c.dims.ensures in
    let each = each_is c.requires.values c.requires.whole c.count_values-each.result
    (c.count_values-each.ensures ∙ ap (λ (ds : List Dim). value_count ds % 2 ^ 64) dims) in
    subst (λ (at : ℕ). IsSteady at c.as_slice-dims.result.now (indices_at c.as_slice-dims.result.now (n % c.count_values-each.result))) (sym c.offset.ensures)
    (subst (λ (ds : List Dim). IsSteady c.args.path.now.offset ds (indices_at ds (n % c.count_values-each.result))) (sym dims)
    (subst (λ (m : ℕ). IsSteady c.args.path.now.offset c.args.path.now.dims (indices_at c.args.path.now.dims (n % m))) (sym each)
    (steady_there c.requires.values c.requires.whole n c.requires.below)))

pub overflow_add-place : goal.overflow_add-place
overflow_add-place c =
    let e = stands_at c.requires.values c.requires.whole c.args.n c.requires.below c.offset.result c.count_values-each.result c.offset_of-offset.result
    c.root_size.result c.as_slice-dims.result.now (c.as_slice-dims.ensures ∙ c.dims.ensures) c.offset.ensures c.root_size.ensures c.count_values-each.ensures
    c.offset_of-offset.ensures in
    let lies = lies_there c.requires.values c.requires.whole c.args.n c.requires.below in
    let short = c.requires.whole.short in
    omega (arith, e, lies, short)

pub number_there-requires : goal.number_there-requires
number_there-requires c =
    let e = stands_at c.requires.values c.requires.whole c.args.n c.requires.below c.offset.result c.count_values-each.result c.offset_of-offset.result
    c.root_size.result c.as_slice-dims.result.now (c.as_slice-dims.ensures ∙ c.dims.ensures) c.offset.ensures c.root_size.ensures c.count_values-each.ensures
    c.offset_of-offset.ensures in
    let lies = lies_there c.requires.values c.requires.whole c.args.n c.requires.below in
    let width = ap (λ (v : ValueSpec). width_of v.kind) c.value.ensures in
    omega (arith, e, lies, width)

pub returns : goal.returns
returns c =
    let e = stands_at c.requires.values c.requires.whole c.args.n c.requires.below c.offset.result c.count_values-each.result c.offset_of-offset.result
    c.root_size.result c.as_slice-dims.result.now (c.as_slice-dims.ensures ∙ c.dims.ensures) c.offset.ensures c.root_size.ensures c.count_values-each.ensures
    c.offset_of-offset.ensures in
    to_z-of_z w64 c.number_there.result (search rules) ∙ c.number_there.ensures
    ∙ ap (λ (v : ValueSpec). number_there v.kind v.order (c.args.n / c.count_values-each.result * c.root_size.result + c.offset_of-offset.result) c.args.records.now) c.value.ensures
    ∙ ap (λ (at : ℕ). number_there c.args.path.now.value.kind c.args.path.now.value.order at c.args.records.now) e
