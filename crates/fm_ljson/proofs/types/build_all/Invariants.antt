use Rattle.std.{proofs.Common.{drop, map}, specs.BTreeMap.{get_by_text}}
use Rattle.serde_json.specs.View.{view}
use Rattle.fm_ljson.{specs.Views.{numbered_view, parts_view}, proofs.Learning.{IsLearning}}
use Rattle.fm_ljson.proofs.types.build_all.Given as goal

abbrev pub invariant-loop-place : goal.invariant-loop-place
invariant-loop-place l =
    IsLearning (get_by_text l.types) l.place (parts_view l.parts).entries (map numbered_view (drop l.place l.parts.entries.items)) (view l.layout)
