use Rattle.std.{proofs.Common.{◌+◌, ◌*◌, drop, map}, specs.{Prelude.{flat_map}, BTreeSet.{contains_text}}}
use Rattle.serde_json.specs.View.{view}
use Rattle.fm_ljson.specs.{Counted.{IsCounting}, Nodes.{nodes}}
use Rattle.fm_ljson.proofs.shape.+shape.Given as goal

abbrev pub decreases-check : goal.decreases-check
decreases-check l = 2 * l.levels

abbrev pub decreases-check_all : goal.decreases-check_all
decreases-check_all l = 2 * l.levels + 1

abbrev pub invariant-check_all-loop-value : goal.invariant-check_all-loop-value
invariant-check_all-loop-value l =
    IsCounting (contains_text l.names) l.most l.fn.number l.number (flat_map (nodes l.levels) (map view l.values))
    (flat_map (nodes l.levels) (map view (drop l.value-index l.values)))
