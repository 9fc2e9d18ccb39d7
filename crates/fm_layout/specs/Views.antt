-- The tree that a layout of the program is seen as.
use Rattle.std.specs.{Prelude.{ℕ, Option, Some, None, List, [], ◌∷◌}, declared.string.String.{String}, String.{string_bytes}}
use Rattle.fm_layout.specs.{Tree.{Label, Tree, Trees, NoMore, More}, declared.layout.Node.{Node}}
use Rattle.fm_layout.specs.Tree as tree
use Rattle.fm_layout.specs.declared.layout.Node.TheVariants as node

-- a name as its bytes
abbrev pub name_bytes : {Z : Type 0} → Option (String Z) → Option (List ℕ)
name_bytes None = None
name_bytes (Some s) = Some (string_bytes s)

abbrev pub label : {Z : Type 0} → ℕ → Option (String Z) → Label
label alignment name = record { alignment = alignment; name = name_bytes name }

-- the trees of a list
abbrev pub trees : List Tree → Trees
trees [] = NoMore
trees (t ∷ ts) = More t (trees ts)

abbrev pub tree_of : ℕ → Label → Node → Tree
tree_of size label (node.Value k o) = tree.Value k o label
tree_of size label node.Padding = tree.Padding size label
tree_of size label (node.Sequence n e) = tree.Sequence n e.value label
tree_of size label (node.Struct ms) = tree.Struct (trees ms.items) label
tree_of size label (node.Union ms) = tree.Union (trees ms.items) label
