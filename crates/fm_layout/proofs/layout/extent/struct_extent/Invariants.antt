use Rattle.std.proofs.Common.{drop}
use Rattle.fm_layout.specs.{Extent.{IsLaying}, Views.{trees}}
use Rattle.fm_layout.proofs.layout.extent.struct_extent.Given as goal

abbrev pub invariant-loop-i : goal.invariant-loop-i
invariant-loop-i l = IsLaying l.i l.size l.alignment (trees l.members) (trees (drop l.i l.members))
