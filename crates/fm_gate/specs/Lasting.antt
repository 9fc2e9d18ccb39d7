-- What a hold outlives.
use Rattle.std.specs.Prelude.{◌≡◌, List}
use Rattle.fm_base.specs.{Calls.{Entry}, Finds.{Close}}
use Rattle.fm_rule_facts.specs.Views.{View}
use Rattle.fm_rule.specs.declared.pool.Pool.{Pool}
use Rattle.fm_rule_calls.specs.Kept.{Goes, rest_of}
use Rattle.fm_gate.specs.{declared.held.Hold.{Hold}, Needs.{CanUnhold}}

-- a pass that goes on and has what it had, but for its closes, can still spend each of its holds
abbrev pub HoldStands : Type 0
HoldStands =
    (pool : Pool) (old new : View) (own : List Entry) (closes : List Close) (hold : Hold) → Goes old new own
    → rest_of new ≡ record (rest_of old) { closes = closes } → CanUnhold pool old hold → CanUnhold pool new hold
