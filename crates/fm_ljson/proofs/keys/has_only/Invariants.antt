use Rattle.std.proofs.Common.{◌≡◌}
use Rattle.serde_json.specs.View.{members_view}
use Rattle.fm_ljson.specs.{Node.{has_only}, Types.{keys_in}}
use Rattle.fm_ljson.proofs.keys.has_only.Given as goal

abbrev pub invariant-loop-key : goal.invariant-loop-key
invariant-loop-key l =
    has_only (keys_in l.role) (members_view l.object.entries) ≡ has_only (keys_in l.role) (members_view l.key-iterator)
