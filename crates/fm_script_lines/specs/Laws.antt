-- What lines come to where all that they took was given back.
use Rattle.std.specs.Prelude.{◌≡◌, List}
use Rattle.fm_base.specs.{Calls.{Entry}, View.{IsSound, Makes}}
use Rattle.fm_rule_facts.specs.Views.{View}
use Rattle.fm_rule_calls.specs.Told.{view_of_pass}
use Rattle.fm_script_lines.specs.Runs.{Went}

abbrev pub SettledIsMade : Type 0
SettledIsMade = (old new : View) (own : List Entry) → Went old new own → new.holds ≡ old.holds → new.handles ≡ old.handles
    → IsSound (view_of_pass new) → Makes (view_of_pass old) (view_of_pass new) own
