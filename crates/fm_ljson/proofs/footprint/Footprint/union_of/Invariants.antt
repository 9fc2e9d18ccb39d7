use Rattle.std.proofs.Common.{◌≤◌, drop}
use Rattle.fm_layout.specs.{Tree.{Trees}, WellFormed.{limit}}
use Rattle.fm_ljson.{specs.Footprints.{AreFootprints}, proofs.Laying.{IsStacked}}
use Rattle.fm_ljson.proofs.footprint.Footprint.union_of.Given as goal

abbrev pub invariant-loop-member : goal.invariant-loop-member
invariant-loop-member l =
    (1 ≤ l.alignment) × (l.size ≤ limit) × ((ts : Trees) → AreFootprints l.members ts → IsStacked l.size l.alignment ts (drop l.member-index l.members))
