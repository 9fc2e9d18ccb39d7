-- A child is less deep than its parent.
use Rattle.std.{specs.Prelude.{ℕ, ◌+◌, ◌≤◌, List, [], ◌∷◌, max}, proofs.Common.{arith}}
use denote.Param.Weighed.{most}
use Rattle.fm_layout.specs.{Tree.{Label, Tree}, Depth.{depth, deepest}, Views.{trees, tree_of}, declared.layout.{Node.{Node}, Layout.TheDeep.{deep-Node}}}
use Rattle.fm_layout.specs.declared.layout.Node.TheVariants as node

most-le-deepest : (ts : List Tree) → most (λ t. depth t + 1) ts ≤ deepest (trees ts) + 1
most-le-deepest [] = omega arith
most-le-deepest (t ∷ ts) = omega (arith, most-le-deepest ts)

pub children_fall : (size : ℕ) (label : Label) (n : Node) → max (deep-Node n) 0 ≤ depth (tree_of size label n)
children_fall size label (node.Value k o) = omega arith
children_fall size label node.Padding = omega arith
children_fall size label (node.Sequence n e) = omega arith
children_fall size label (node.Struct ms) = omega (arith, most-le-deepest ms.items)
children_fall size label (node.Union ms) = omega (arith, most-le-deepest ms.items)
