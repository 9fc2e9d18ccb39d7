use Rattle.std.{proofs.{Common.{◌≡◌, ◌+◌, ◌*◌, length, ap, ◌∙◌, w64, rules}, lemmas.Int.{to_z-of_z}}, specs.{Int.{w128}, Prelude.{◌+ℤ◌}}}
use mir.Val.{to_z, of_z}
use Rattle.fm_top.{proofs.Sums.{whole_place, ends_in_file, number_got, next_sum, IsWithin-more}, specs.Records.{number_at, sum_of_values}}
use Rattle.fm_lanes.specs.Kind.{width_of}
use Rattle.fm_top.proofs.outcome.sum_values.sum_as.Goals as goal

pub value-value-requires-clause-aligned : goal.value-value-requires-clause-aligned
value-value-requires-clause-aligned c =
    rw c.value-layout.ensures.made
    (whole_place (width_of c.args.kind) c.loop-record.record c.args.size c.args.at c.requires.value.size_whole c.requires.value.at_whole)

pub value-value-requires-clause-within : goal.value-value-requires-clause-within
value-value-requires-clause-within c =
    rw (c.value-layout.ensures.made, c.loop-record.invariant.same)
    (ends_in_file c.loop-record.record c.args.size c.args.at (width_of c.args.kind) (length c.args.loaded.now)
    (rw c.len.ensures at c.loop-record-test.true) c.requires.value.within)

pub loop-record-preserved : goal.loop-record-preserved
loop-record-preserved c =
    let new = c.plus-sum.result in
    let x = c.number.result in
    let place = c.loop-record.record * c.args.size + c.args.at in
    let is_x = number_got c.args.kind _ place c.loop-record.loaded _ x c.value-layout.ensures.made c.value-value.ensures.value c.number.ensures in
    let stored : to_z w128 (of_z w128 new) ≡ new = to_z-of_z w128 new (search (rules, c.plus-sum.type_inv)) in
    let read : to_z w64 (of_z w64 x) ≡ x = to_z-of_z w64 x (search (rules, c.number.type_inv)) in
    let is : to_z w128 (of_z w128 new) ≡ to_z w128 c.loop-record.sum-bits +ℤ x =
    stored ∙ c.plus-sum.ensures ∙ ap (λ n. to_z w128 c.loop-record.sum-bits +ℤ n) read in
    record {
      rest = next_sum c.args.kind c.args.size c.args.at c.loop-record.record c.args.loaded.now (to_z w128 c.loop-record.sum-bits) x
          (to_z w128 (of_z w128 new)) (sum_of_values c.args.kind c.args.size c.args.at c.args.loaded.now)
          (rw c.len.ensures at c.loop-record-test.true) c.requires.value.within is
          (is_x ∙ ap (number_at c.args.kind place) c.loop-record.invariant.same) c.loop-record.invariant.rest;
      same = c.value-value.ensures.same ∙ c.loop-record.invariant.same;
      small = IsWithin-more c.loop-record.record (to_z w128 c.loop-record.sum-bits) x (to_z w128 (of_z w128 new)) c.loop-record.invariant.small
          c.number.type_inv is;
    }
