use Rattle.std.specs.BTreeMap.{get_by_text}
use Rattle.serde_json.specs.View.{view}
use Rattle.fm_ljson.specs.Refs.{unknown}
use Rattle.fm_ljson.proofs.{Learning.{none_earlier, none_to_build, none_to_know}, Reading.{none_contained, none_defined, one_built, one_refused}}
use Rattle.fm_ljson.proofs.read.layout_of_one.Goals as goal

pub build-requires : goal.build-requires
build-requires c = none_to_build (get_by_text c.new-in-Ok.result) (none_defined c.new-in-Ok.result c.new-in-Ok.ensures.empty)

pub returns-in-Ok : goal.returns-in-Ok
returns-in-Ok c =
    let none = none_defined c.new-in-Ok.result c.new-in-Ok.ensures.empty in
    one_built _ _ (view c.args.value.now) c.in-Ok.field-0 c.build.result (none_contained c.new.result c.new.ensures.empty)
    (none_earlier (get_by_text c.new-in-Ok.result) none) c.in-Ok.ensures.sound
    (c.build.ensures unknown (none_to_know (get_by_text c.new-in-Ok.result) none))

pub returns : goal.returns
returns c = one_refused _ (view c.args.value.now) c.in-Err.node (none_contained c.new.result c.new.ensures.empty) c.in-Err.ensures.broken
