use Rattle.std.{proofs.Common.{drop, map}, specs.BTreeSet.{contains_text}}
use Rattle.serde_json.specs.View.{view}
use Rattle.fm_ljson.specs.{Loops.{IsReading}, Views.{numbered_view}}
use Rattle.fm_ljson.proofs.types.parts_of.Given as goal

abbrev pub invariant-loop-value : goal.invariant-loop-value
invariant-loop-value l =
    IsReading (contains_text l.names) (map numbered_view l.entries.items) l.number (map view l.types) (map view (drop l.value-index l.types)) (view l.layout)
