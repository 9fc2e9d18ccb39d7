-- The kind of a value, and the number that it is.
use Rattle.std.specs.Prelude.{ℤ, pos, true, false}
use Rattle.fm_lanes.specs.declared.{value.Value.{Value, TheVariants.{Byte, Boolean, Char, Short, Int, Long}}, value_kind.ValueKind.{ValueKind}}
use Rattle.fm_lanes.specs.declared.value_kind.ValueKind.TheVariants as kind

abbrev pub kind_of : Value → ValueKind
kind_of (Byte n) = kind.Byte
kind_of (Boolean b) = kind.Boolean
kind_of (Char n) = kind.Char
kind_of (Short n) = kind.Short
kind_of (Int n) = kind.Int
kind_of (Long n) = kind.Long

-- a boolean is 0 or 1, a char its code
abbrev pub number_of_value : Value → ℤ
number_of_value (Byte n) = n
number_of_value (Boolean false) = pos 0
number_of_value (Boolean true) = pos 1
number_of_value (Char n) = pos n
number_of_value (Short n) = n
number_of_value (Int n) = n
number_of_value (Long n) = n
