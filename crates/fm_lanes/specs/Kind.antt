-- The bytes of each kind of value.
use Rattle.std.specs.Prelude.{ℕ}
use Rattle.fm_lanes.specs.declared.value_kind.ValueKind.{ValueKind, TheVariants.{Byte, Boolean, Char, Short, Int, Long}}

-- the bytes that a value takes
abbrev pub width_of : ValueKind → ℕ
width_of Byte = 1
width_of Boolean = 1
width_of Char = 2
width_of Short = 2
width_of Int = 4
width_of Long = 8
