-- How values are coded in bytes: two's complement in the kind's width, in either order.
use Rattle.std.specs.Prelude.{ℕ, ◌%◌, ◌^◌, ◌==◌, not, List, reverse}
use Rattle.fm_base_bytes.specs.{Bytes.{bytes_of, number_of, replaced}, Signed.{signed_of, unsigned_of}}
use Rattle.fm_lanes.specs.declared.{order.Order.{Order, TheVariants.{Little, Big}}, value.Value.{Value, TheVariants.{Byte, Boolean, Char, Short, Int, Long}}}
use Rattle.fm_lanes.specs.{declared.value_kind.ValueKind.{ValueKind}, Kind.{width_of}, Value.{kind_of, number_of_value}}
use Rattle.fm_lanes.specs.declared.value_kind.ValueKind.TheVariants as kind

-- the two's complement of the value's number in the value's width
abbrev pub encoded : Value → ℕ
encoded v = unsigned_of (width_of (kind_of v)) (number_of_value v)

-- the value that the lowest bytes of a number mean; a boolean is false exactly from 0
abbrev pub decoded : ValueKind → ℕ → Value
decoded kind.Byte n = Byte (signed_of 1 (n % 2 ^ 8))
decoded kind.Boolean n = Boolean (not (n % 2 ^ 8 == 0))
decoded kind.Char n = Char (n % 2 ^ 16)
decoded kind.Short n = Short (signed_of 2 (n % 2 ^ 16))
decoded kind.Int n = Int (signed_of 4 (n % 2 ^ 32))
decoded kind.Long n = Long (signed_of 8 (n % 2 ^ 64))

-- the bytes in the order in which they count, the lowest first
abbrev pub lowest_first : Order → List ℕ → List ℕ
lowest_first Little bytes = bytes
lowest_first Big bytes = reverse bytes

-- the value that these bytes mean
abbrev pub value_of : ValueKind → Order → List ℕ → Value
value_of k order bytes = decoded k (number_of (lowest_first order bytes))

-- the bytes that a value is written as
abbrev pub bytes_of_value : Order → Value → List ℕ
bytes_of_value order v = lowest_first order (bytes_of (width_of (kind_of v)) (encoded v))

-- a number whose lowest `width` bytes are reversed for Big; its other bytes stay
abbrev pub turned : ℕ → ℕ → Order → ℕ
turned width n Little = n
turned width n Big = replaced n 0 width (number_of (reverse (bytes_of width n)))
