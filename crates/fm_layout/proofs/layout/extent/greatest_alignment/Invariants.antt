use Rattle.std.proofs.Common.{◌≡◌, ◌≤◌, drop, max}
use Rattle.fm_layout.specs.{Size.{greatest_alignment}, Views.{trees}}
use Rattle.fm_layout.proofs.layout.extent.greatest_alignment.Given as goal

abbrev pub invariant-loop-member : goal.invariant-loop-member
invariant-loop-member l = (1 ≤ l.greatest)
    × (max l.greatest (greatest_alignment (trees (drop l.member-index l.members))) ≡ greatest_alignment (trees l.members))
