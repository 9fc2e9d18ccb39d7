use Rattle.std.{proofs.Common.{◌+◌, ◌*◌, ℕ, List, Option, drop, map}, specs.BTreeMap.{get_by_text}}
use Rattle.serde_json.specs.View.{view}
use Rattle.fm_layout.specs.Tree.{Tree}
use Rattle.fm_ljson.{specs.{Built.{all_of, built}, Known.{AreKnown}}, proofs.Weighing.{IsWeighing}}
use Rattle.fm_ljson.proofs.weigh.+weigh.Given as goal

abbrev pub decreases-weigh : goal.decreases-weigh
decreases-weigh l = 3 * l.levels

abbrev pub decreases-weigh_content : goal.decreases-weigh_content
decreases-weigh_content l = 3 * l.levels + 2

abbrev pub decreases-weigh_all : goal.decreases-weigh_all
decreases-weigh_all l = 3 * l.levels + 1

abbrev pub invariant-weigh_all-loop-value : goal.invariant-weigh_all-loop-value
invariant-weigh_all-loop-value l =
    (trees : List ℕ → Option Tree) → AreKnown (get_by_text l.types) trees
    → IsWeighing l.footprints.items (all_of (map (built trees l.levels) (map view l.values))) (all_of (map (built trees l.levels) (map view (drop l.value-index l.values))))
