use Rattle.std.proofs.Common.{◌≤◌, drop}
use Rattle.fm_layout.specs.{Tree.{Trees}, WellFormed.{limit}}
use Rattle.fm_ljson.{specs.Footprints.{AreFootprints}, proofs.Laying.{IsLaid}}
use Rattle.fm_ljson.proofs.footprint.Footprint.structure.Given as goal

abbrev pub invariant-loop-i : goal.invariant-loop-i
invariant-loop-i l =
    (1 ≤ l.alignment) × (l.size ≤ limit) × ((ts : Trees) → AreFootprints l.members ts → IsLaid l.i l.size l.alignment ts (drop l.i l.members))
