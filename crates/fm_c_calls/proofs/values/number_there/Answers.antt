use Rattle.std.{proofs.{Common.{rules, ◌≡◌, ◌+◌, ◌-◌, ℕ, take, drop, ap, ◌∙◌, arith}, lemmas.Int.{to_z-of_z}}, specs.Int.{w64}}
use Rattle.byteorder.specs.Endian.{little_number}
use Rattle.fm_lanes.specs.{Coding.{decoded, turned}, Kind.{width_of}, Value.{number_of_value}}
use Rattle.fm_segment_access.proofs.Alone.{AreBytes-slice}
use Rattle.fm_c_calls.proofs.Valued.{bytes_there, turned_bytes}
use Rattle.fm_c_calls.proofs.values.number_there.Goals as goal

pub returns : goal.returns
returns c =
    let bs = take (width_of c.args.value.now.kind) (drop c.args.at c.args.bytes.now) in
    let there = bytes_there c.args.at (width_of c.args.value.now.kind) c.args.bytes.now (AreBytes-slice c.args.bytes.now c.type_inv.bytes) c.requires in
    let w = width_of c.args.value.now.kind in
    let same = c.width-width.ensures in
    let cut : c.args.at + c.width-width.result - c.args.at ≡ width_of c.args.value.now.kind = omega (arith, same) in
    let read : little_number c.width-width.result (take (c.args.at + c.width-width.result - c.args.at) (drop c.args.at c.args.bytes.now)) ≡ little_number w bs =
    ap (λ (n : ℕ). little_number n (take (c.args.at + c.width-width.result - c.args.at) (drop c.args.at c.args.bytes.now))) same
    ∙ ap (λ (n : ℕ). little_number w (take n (drop c.args.at c.args.bytes.now))) cut in
    to_z-of_z w64 c.number.result (search rules) ∙ c.number.ensures
    ∙ ap number_of_value (c.decode.ensures.decoded ∙ ap (decoded c.args.value.now.kind)
    (c.turned.ensures.turned ∙ ap (λ (n : ℕ). turned n c.read_uint-low.result c.args.value.now.order) c.width-width.ensures
    ∙ ap (λ (n : ℕ). turned (width_of c.args.value.now.kind) n c.args.value.now.order) (c.read_uint-low.ensures ∙ read)
    ∙ turned_bytes c.args.value.now.order (width_of c.args.value.now.kind) bs there.0 there.1))
