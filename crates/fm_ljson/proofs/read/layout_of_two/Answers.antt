use Rattle.std.proofs.Common.{map}
use Rattle.serde_json.specs.View.{view}
use Rattle.fm_ljson.{specs.Views.{parts_view}, proofs.Learning.{parts_new}}
use Rattle.fm_ljson.proofs.read.layout_of_two.Goals as goal

pub build_all-requires : goal.build_all-requires
build_all-requires c = parts_new (map view c.args.types.now) (view c.args.layout.now) (parts_view c.in_ok-parts.parts) c.in_ok-parts.ensures.sound
