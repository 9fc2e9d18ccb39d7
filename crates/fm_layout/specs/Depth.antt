-- How deep a layout is: more than each layout in it.
use Rattle.std.specs.Prelude.{ℕ, ◌+◌, max}
use Rattle.fm_layout.specs.Tree.{Tree, Trees, Value, Padding, Sequence, Struct, Union, NoMore, More}

abbrev mutual
  pub depth : Tree → ℕ
  depth (Value k o l) = 1
  depth (Padding n l) = 1
  depth (Sequence n e l) = depth e + 1
  depth (Struct ms l) = deepest ms + 1
  depth (Union ms l) = deepest ms + 1

  pub deepest : Trees → ℕ
  deepest NoMore = 0
  deepest (More t ts) = max (depth t) (deepest ts)
