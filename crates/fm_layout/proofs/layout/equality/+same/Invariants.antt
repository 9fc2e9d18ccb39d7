use Rattle.std.proofs.Common.{◌≡◌, ◌+◌, ◌*◌, take}
use Rattle.fm_layout.specs.{Depth.{depth, deepest}, Views.{trees}}
use Rattle.fm_layout.proofs.layout.equality.+same.Given as goal

abbrev pub decreases-same : goal.decreases-same
decreases-same l = 2 * depth l.a.now

abbrev pub decreases-same_all : goal.decreases-same_all
decreases-same_all l = 2 * deepest (trees l.a.now) + 1

abbrev pub invariant-same_all-loop-i : goal.invariant-same_all-loop-i
invariant-same_all-loop-i l = take l.i l.a ≡ take l.i l.b
