-- What the bytes of words mean as values, and what bytes a value is written as.
use Rattle.std.proofs.Common.{◌≡◌, ℕ, ◌+◌, ◌*◌, ◌<◌, ◌≤◌, List, length, take, drop, get_or, sym, ap, ◌∙◌, arith}
use Rattle.fm_base_bytes.{specs.{Bytes.{bytes_of, number_of, lane}, Words.{bytes_in}}, proofs.{Bytes.{bytes_of-lane, lane-lt}, Words.{bytes_in-lane}}}
use Rattle.fm_lanes.specs.declared.{order.Order.{Order}, value.Value.{Value}, value_kind.ValueKind.{ValueKind}}
use Rattle.fm_lanes.specs.{declared.value_kind.ValueKind.TheVariants.{Byte, Boolean, Char, Short, Int, Long}, Kind.{width_of}}
use Rattle.fm_lanes.{specs.Coding.{decoded, encoded, turned, lowest_first, value_of}, proofs.Turning.{turned_number, bytes_of-turned_order}}

-- A width is 1 to 8 bytes.
pub width_of-bounds : (kind : ValueKind) → (1 ≤ width_of kind) × (width_of kind ≤ 8)
width_of-bounds Byte = (omega arith, omega arith)
width_of-bounds Boolean = (omega arith, omega arith)
width_of-bounds Char = (omega arith, omega arith)
width_of-bounds Short = (omega arith, omega arith)
width_of-bounds Int = (omega arith, omega arith)
width_of-bounds Long = (omega arith, omega arith)

-- A lane that is turned and decoded is the value that its bytes mean.
pub value_of-lane : (kind : ValueKind) (order : Order) (word at : ℕ) → at + width_of kind ≤ 8
    → decoded kind (turned (width_of kind) (lane word at (width_of kind)) order)
    ≡ value_of kind order (take (width_of kind) (drop at (bytes_of 8 word)))
value_of-lane kind order word at fits =
    ap (decoded kind) (turned_number (width_of kind) (lane word at (width_of kind)) order (lane-lt word at (width_of kind))
    ∙ ap (λ bs. number_of (lowest_first order bs)) (bytes_of-lane 8 at (width_of kind) word fits))
