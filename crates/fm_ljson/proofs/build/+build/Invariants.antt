use Rattle.std.{proofs.Common.{◌+◌, ◌*◌, ℕ, List, Option, drop, map}, specs.BTreeMap.{get_by_text}}
use Rattle.serde_json.specs.View.{view}
use Rattle.fm_layout.specs.Tree.{Tree}
use Rattle.fm_ljson.{specs.{Built.{all_of, built}, Known.{AreKnown, earlier}}, proofs.Building.{IsBuilding}}
use Rattle.fm_ljson.proofs.build.+build.Given as goal

-- A ref leads to a type before the one in which it stands, which is written with at most 127 levels.
abbrev pub decreases-build : goal.decreases-build
decreases-build l = 1000 * l.before + 4 * l.levels

abbrev pub decreases-build_content : goal.decreases-build_content
decreases-build_content l = 1000 * l.before + 4 * l.levels + 2

abbrev pub decreases-build_all : goal.decreases-build_all
decreases-build_all l = 1000 * l.before + 4 * l.levels + 1

abbrev pub decreases-copy_of : goal.decreases-copy_of
decreases-copy_of l = 1000 * l.before

abbrev pub invariant-build_all-loop-value : goal.invariant-build_all-loop-value
invariant-build_all-loop-value l =
    (trees : List ℕ → Option Tree) → AreKnown (get_by_text l.types) trees
    → IsBuilding l.layouts.items (all_of (map (built (earlier l.before (get_by_text l.types) trees) l.levels) (map view l.values)))
    (all_of (map (built (earlier l.before (get_by_text l.types) trees) l.levels) (map view (drop l.value-index l.values))))
