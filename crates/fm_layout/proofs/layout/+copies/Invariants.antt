use Rattle.std.proofs.Common.{◌≡◌, ◌+◌, ◌*◌, take}
use Rattle.fm_layout.specs.{Depth.{depth, deepest}, Views.{trees}}
use Rattle.fm_layout.proofs.layout.+copies.Given as goal

abbrev pub decreases-Layout::copy : goal.decreases-Layout::copy
decreases-Layout::copy l = 2 * depth l.self.now

abbrev pub decreases-copies::clone_all : goal.decreases-copies::clone_all
decreases-copies::clone_all l = 2 * deepest (trees l.layouts.now) + 1

abbrev pub invariant-copies::clone_all-loop-layout : goal.invariant-copies::clone_all-loop-layout
invariant-copies::clone_all-loop-layout l = l.all.items ≡ take l.layout-index l.layouts
