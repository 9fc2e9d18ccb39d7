-- The names of kinds of value and of byte orders.
use Rattle.std.specs.Prelude.{ℕ, Option, List, [], ◌∷◌, codes, bytes_eq, find}
use Rattle.fm_lanes.specs.declared.{order.Order.{Order, TheVariants.{Little, Big}}, value_kind.ValueKind.{ValueKind}}
use Rattle.fm_lanes.specs.declared.value_kind.ValueKind.TheVariants.{Byte, Boolean, Char, Short, Int, Long}

abbrev pub kind_text : ValueKind → List ℕ
kind_text Byte = codes "byte"
kind_text Boolean = codes "boolean"
kind_text Char = codes "char"
kind_text Short = codes "short"
kind_text Int = codes "int"
kind_text Long = codes "long"

abbrev pub order_text : Order → List ℕ
order_text Little = codes "little"
order_text Big = codes "big"

abbrev pub kinds : List ValueKind
kinds = Byte ∷ Boolean ∷ Char ∷ Short ∷ Int ∷ Long ∷ []

-- the kind that a text names
unfoldable pub kind_named : List ℕ → Option ValueKind
kind_named text = find (λ k. bytes_eq text (kind_text k)) kinds

-- the order that a text names
abbrev pub order_named : List ℕ → Option Order
order_named text = find (λ o. bytes_eq text (order_text o)) (Little ∷ Big ∷ [])
