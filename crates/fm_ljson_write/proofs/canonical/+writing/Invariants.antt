use Rattle.std.proofs.Common.{◌+◌, ◌*◌, map}
use Rattle.serde_json.specs.View.{view}
use Rattle.fm_layout.specs.Depth.{depth}
use Rattle.fm_ljson_write.proofs.Rest.{IsFilling}
use Rattle.fm_ljson_write.proofs.canonical.+writing.Given as goal

abbrev pub decreases-json_of : goal.decreases-json_of
decreases-json_of l = 3 * depth l.layout.now + 2

abbrev pub decreases-sequence_json : goal.decreases-sequence_json
decreases-sequence_json l = 3 * depth l.layout.now

abbrev pub decreases-group_json : goal.decreases-group_json
decreases-group_json l = 3 * depth l.layout.now + 1

abbrev pub decreases-items_of : goal.decreases-items_of
decreases-items_of l = 3 * depth l.layout.now

abbrev pub invariant-items_of-loop-i : goal.invariant-items_of-loop-i
invariant-items_of-loop-i l = IsFilling (map view l.items.items) l.i l.layout
