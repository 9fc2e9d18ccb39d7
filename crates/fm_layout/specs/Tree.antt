-- Layouts as trees (`MemoryLayout`, Java SE 22).
use Rattle.std.specs.Prelude.{ℕ, Option, List}
use Rattle.fm_lanes.specs.declared.{order.Order.{Order}, value_kind.ValueKind.{ValueKind}}

-- what every layout has beside its form: its alignment in bytes, and perhaps a name
pub record Label : Type 0 where
  pub alignment : ℕ
  pub name : Option (List ℕ)

mutual
  pub data Tree : Type 0 where
    Value : (kind : ValueKind) → (order : Order) → (label : Label) → Tree
    Padding : (size : ℕ) → (label : Label) → Tree
    Sequence : (count : ℕ) → (element : Tree) → (label : Label) → Tree
    Struct : (members : Trees) → (label : Label) → Tree
    Union : (members : Trees) → (label : Label) → Tree

  pub data Trees : Type 0 where
    NoMore : Trees
    More : (first : Tree) → (rest : Trees) → Trees

abbrev pub label_of : Tree → Label
label_of (Value k o l) = l
label_of (Padding n l) = l
label_of (Sequence n e l) = l
label_of (Struct ms l) = l
label_of (Union ms l) = l

abbrev pub alignment_of : Tree → ℕ
alignment_of t = (label_of t).alignment

abbrev pub name_of : Tree → Option (List ℕ)
name_of t = (label_of t).name

-- the tree with another label
abbrev pub relabelled : Label → Tree → Tree
relabelled l (Value k o m) = Value k o l
relabelled l (Padding n m) = Padding n l
relabelled l (Sequence n e m) = Sequence n e l
relabelled l (Struct ms m) = Struct ms l
relabelled l (Union ms m) = Union ms l
