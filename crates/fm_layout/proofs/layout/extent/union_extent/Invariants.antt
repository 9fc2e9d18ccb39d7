use Rattle.std.proofs.Common.{drop}
use Rattle.fm_layout.specs.{Extent.{IsStacking}, Views.{trees}}
use Rattle.fm_layout.proofs.layout.extent.union_extent.Given as goal

abbrev pub invariant-loop-member : goal.invariant-loop-member
invariant-loop-member l = IsStacking l.size l.alignment (trees l.members) (trees (drop l.member-index l.members))
