-- What a layout is, and what stands directly in it.
use Rattle.std.{specs.Prelude.{◌≡◌, ℕ, ◌+◌, Option, Some, None, List, [], ◌∷◌}, proofs.Common.{zero, suc}}
use Rattle.fm_layout.specs.{Tree.{Tree, Trees, Value, Padding, Sequence, Struct, Union, NoMore, More, label_of}, Size.{size_of}, declared.form.Form.{Form}}
use Rattle.fm_layout.specs.declared.form.Form.TheVariants as form

abbrev pub count_of : Trees → ℕ
count_of NoMore = 0
count_of (More t ts) = count_of ts + 1

abbrev pub tree_at : ℕ → Trees → Option Tree
tree_at i NoMore = None
tree_at zero (More t ts) = Some t
tree_at (suc i) (More t ts) = tree_at i ts

-- what it is, and how many trees stand directly in it
abbrev pub form_of : Tree → Form
form_of (Value k o l) = form.Value k o
form_of (Padding n l) = form.Padding
form_of (Sequence n e l) = form.Sequence n
form_of (Struct ms l) = form.Struct (count_of ms)
form_of (Union ms l) = form.Union (count_of ms)

-- member i of a group
abbrev pub member_of : ℕ → Tree → Option Tree
member_of i (Struct ms l) = tree_at i ms
member_of i (Union ms l) = tree_at i ms
member_of i t = None

-- the element of a sequence
abbrev pub element_of : Tree → Option Tree
element_of (Sequence n e l) = Some e
element_of t = None

abbrev pub list_of : Trees → List Tree
list_of NoMore = []
list_of (More t ts) = t ∷ list_of ts

-- what stands directly in it
abbrev pub children_of : Tree → List Tree
children_of (Sequence n e l) = e ∷ []
children_of (Struct ms l) = list_of ms
children_of (Union ms l) = list_of ms
children_of t = []

abbrev pub IsValue : Tree → Type 0
IsValue (Value k o l) = Unit {0}
IsValue t = ⊥

abbrev pub IsPadding : Tree → Type 0
IsPadding (Padding n l) = Unit {0}
IsPadding t = ⊥

-- two layouts are equal but for what stands in them
pub record HasSameHead (t u : Tree) : Type 0 where
  pub form : form_of t ≡ form_of u
  pub size : size_of t ≡ size_of u
  pub label : label_of t ≡ label_of u
