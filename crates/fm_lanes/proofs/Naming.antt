-- A name tells its kind, and its order.
use Rattle.std.proofs.Common.{◌≡◌, Some, refl, sym, ap, ◌∙◌}
use Rattle.fm_lanes.specs.declared.{order.Order.{Order, TheVariants.{Little, Big}}, value_kind.ValueKind.{ValueKind}}
use Rattle.fm_lanes.specs.declared.value_kind.ValueKind.TheVariants.{Byte, Boolean, Char, Short, Int, Long}
use Rattle.fm_lanes.specs.Named.{kind_text, order_text, kind_named, order_named}

-- A kind's name names that kind.
pub kind_named-text : (kind : ValueKind) → kind_named (kind_text kind) ≡ Some kind
unfolding kind_named
kind_named-text Byte = refl
kind_named-text Boolean = refl
kind_named-text Char = refl
kind_named-text Short = refl
kind_named-text Int = refl
kind_named-text Long = refl

some_one : {A : Type 0} (x y : A) → Some x ≡ Some y → x ≡ y
some_one x y same = cc

-- Kinds of one name are one kind.
pub kind_text-injective : (kind other : ValueKind) → kind_text kind ≡ kind_text other → kind ≡ other
kind_text-injective kind other same =
    some_one kind other (sym (kind_named-text kind) ∙ ap kind_named same ∙ kind_named-text other)
