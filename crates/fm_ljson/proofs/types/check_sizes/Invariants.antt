use Rattle.std.{proofs.Common.{◌≡◌, drop, map}, specs.BTreeMap.{get_by_text}}
use Rattle.serde_json.specs.View.{view}
use Rattle.fm_ljson.specs.{Measured.{first_large, large_in}, Views.{numbered_view, parts_view}}
use Rattle.fm_ljson.proofs.types.check_sizes.Given as goal

abbrev pub invariant-loop-entry : goal.invariant-loop-entry
invariant-loop-entry l =
    large_in (parts_view l.parts) (view l.layout)
    ≡ first_large (get_by_text l.known) (map numbered_view (drop l.entry-index l.parts.entries.items)) l.parts.number (view l.layout)
