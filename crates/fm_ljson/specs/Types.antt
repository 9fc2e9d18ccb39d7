-- The types of layout objects, and the keys that an object may have.
use Rattle.std.specs.{List.{list_any}, Prelude.{ℕ, Bool, Option, List, [], ◌∷◌, codes, bytes_eq, find}}
use Rattle.fm_lanes.specs.{declared.value_kind.ValueKind.TheVariants.{Byte, Boolean, Char, Short, Int, Long}, Named.{kind_text}}
use Rattle.fm_ljson.specs.declared.{type_name.TypeName.{TypeName, TheVariants.{Value, Padding, Sequence, Struct, Union}}, role.Role.{Role}}
use Rattle.fm_ljson.specs.declared.role.Role.TheVariants.{Document, Entry, Layout, Ref}

-- what the key `type` has for it
abbrev pub type_text : TypeName → List ℕ
type_text (Value k) = kind_text k
type_text Padding = codes "padding"
type_text Sequence = codes "sequence"
type_text Struct = codes "struct"
type_text Union = codes "union"

abbrev pub types : List TypeName
types =
    Value Byte ∷ Value Boolean ∷ Value Char ∷ Value Short ∷ Value Int ∷ Value Long
    ∷ Padding ∷ Sequence ∷ Struct ∷ Union ∷ []

-- the type that a text names
unfoldable pub type_named : List ℕ → Option TypeName
type_named text = find (λ t. bytes_eq text (type_text t)) types

-- the keys that an object of this type may have
abbrev pub keys_of : TypeName → List (List ℕ)
keys_of (Value k) = codes "type" ∷ codes "name" ∷ codes "order" ∷ codes "align" ∷ []
keys_of Padding = codes "type" ∷ codes "name" ∷ codes "size" ∷ []
keys_of Sequence = codes "type" ∷ codes "name" ∷ codes "align" ∷ codes "count" ∷ codes "element" ∷ []
keys_of Struct = codes "type" ∷ codes "name" ∷ codes "align" ∷ codes "members" ∷ []
keys_of Union = codes "type" ∷ codes "name" ∷ codes "align" ∷ codes "members" ∷ []

-- the keys that an object in this role may have
abbrev pub keys_in : Role → List (List ℕ)
keys_in (Layout t) = keys_of t
keys_in Ref = codes "type" ∷ codes "of" ∷ codes "name" ∷ []
keys_in Entry = codes "define" ∷ codes "layout" ∷ []
keys_in Document = codes "version" ∷ codes "types" ∷ codes "layout" ∷ []

-- a key is among these
abbrev pub is_among : List (List ℕ) → List ℕ → Bool
is_among keys key = list_any (λ k. bytes_eq k key) keys
