-- Which layouts are within the limits of the format.
use Rattle.std.specs.Prelude.{◌≡◌, ℕ, ◌+◌, ◌≤◌, List, Ok}
use Rattle.fm_layout.specs.{Depth.{depth}, Tree.{Tree, Trees, Value, Padding, Sequence, Struct, Union, NoMore, More}, WellFormed.{limit}}
use Rattle.fm_ljson.specs.{Answer.{layout_of_json}, Nodes.{most_levels, most_nodes}}

abbrev mutual
  -- how many layouts it is made of, itself among them
  pub node_count : Tree → ℕ
  node_count (Value k o l) = 1
  node_count (Padding n l) = 1
  node_count (Sequence n e l) = 1 + node_count e
  node_count (Struct ms l) = 1 + node_counts ms
  node_count (Union ms l) = 1 + node_counts ms

  pub node_counts : Trees → ℕ
  node_counts NoMore = 0
  node_counts (More t ts) = node_count t + node_counts ts

abbrev mutual
  -- the count of each sequence is at most 2^40, which follows of its size where the element has any bytes
  pub AreCountsSmall : Tree → Type 0
  AreCountsSmall (Value k o l) = Unit {0}
  AreCountsSmall (Padding n l) = Unit {0}
  AreCountsSmall (Sequence n e l) = (n ≤ limit) × AreCountsSmall e
  AreCountsSmall (Struct ms l) = AreAllCountsSmall ms
  AreCountsSmall (Union ms l) = AreAllCountsSmall ms

  pub AreAllCountsSmall : Trees → Type 0
  AreAllCountsSmall NoMore = Unit {0}
  AreAllCountsSmall (More t ts) = AreCountsSmall t × AreAllCountsSmall ts

pub record IsWithinLimits (t : Tree) : Type 0 where
  pub levels : depth t ≤ most_levels
  pub nodes : node_count t ≤ most_nodes
  pub counts : AreCountsSmall t

-- they read as this layout, if it is within the limits
abbrev pub ReadsAs : Tree → List ℕ → Type 0
ReadsAs t bytes = IsWithinLimits t → layout_of_json bytes ≡ Ok t
