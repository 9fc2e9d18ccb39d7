-- The tree of a node with another label.
use Rattle.std.{proofs.Common.{◌≡◌, ℕ, ◌≤◌, true, refl, sym, subst}, specs.Int.{is_power_of_two}}
use Rattle.fm_layout.specs.{Tree.{Label, relabelled}, Size.{least_of}, WellFormed.{limit}, Named.{HasNames, IsNameIfAny}, Sound.{IsSound}, Parts.{IsPadding}}
use Rattle.fm_base_bytes.proofs.Powers.{IsPowerOfTwo-from_test}
use Rattle.fm_layout.{specs.{Views.{tree_of}, declared.layout.Node.{Node}}, proofs.Sound.{realigned_sound}}
use Rattle.fm_layout.specs.declared.layout.Node.TheVariants as node

-- The label is all that changes.
tree_of-relabelled : (size : ℕ) (l m : Label) (n : Node) → tree_of size l n ≡ relabelled l (tree_of size m n)
tree_of-relabelled size l m (node.Value k o) = refl
tree_of-relabelled size l m node.Padding = refl
tree_of-relabelled size l m (node.Sequence n e) = refl
tree_of-relabelled size l m (node.Struct ms) = refl
tree_of-relabelled size l m (node.Union ms) = refl

-- The name of a node's tree is a name.
name_kept : (size : ℕ) (m : Label) (n : Node) → HasNames (tree_of size m n) → IsNameIfAny m.name
name_kept size m (node.Value k o) h = h
name_kept size m node.Padding h = h
name_kept size m (node.Sequence n e) h = h.0
name_kept size m (node.Struct ms) h = h.0
name_kept size m (node.Union ms) h = h.0

-- A layout that isn't padding, with another alignment that it may have.
pub realigned_node : (size n : ℕ) (l m : Label) (inside : Node) → IsSound size (tree_of size m inside) → ¬ (IsPadding (tree_of size m inside))
    → l.alignment ≡ n → l.name ≡ m.name → is_power_of_two n ≡ true → n ≤ limit → least_of (tree_of size m inside) ≤ n → IsSound size (tree_of size l inside)
realigned_node size n l m inside s other e same p h least =
    subst (IsSound size) (sym (tree_of-relabelled size l m inside))
    (realigned_sound size n l (tree_of size m inside) s other e (subst IsNameIfAny (sym same) (name_kept size m inside s.named)) (IsPowerOfTwo-from_test n p)
    h least)
