use Rattle.std.{proofs.Common.{◌+◌, ◌*◌, drop, map}, specs.BTreeMap.{get_by_text}}
use Rattle.serde_json.specs.View.{view}
use Rattle.fm_ljson.{specs.{Loops.{all_parts}, Measured.{all_measured, measure}}, proofs.Measuring.{IsSumming}}
use Rattle.fm_ljson.proofs.measure.+measure.Given as goal

abbrev pub decreases-measure : goal.decreases-measure
decreases-measure l = 2 * l.levels

abbrev pub decreases-measure_all : goal.decreases-measure_all
decreases-measure_all l = 2 * l.levels + 1

abbrev pub invariant-measure_all-loop-value : goal.invariant-measure_all-loop-value
invariant-measure_all-loop-value l =
    IsSumming l.all (all_parts (get_by_text l.known) l.levels l.values) (all_measured (measure (get_by_text l.known) l.levels)
    (map view (drop l.value-index l.values)))
