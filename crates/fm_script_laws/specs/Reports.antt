-- What all lines of a script did is tidy.
use Rattle.std.specs.{Prelude.{ℕ, List, []}, List.{AllByRecursion}}
use Rattle.fm_base.specs.{Calls.{Entry}, Histories.{IsLegal, IsTidy}}
use Rattle.fm_script_lines.specs.Report.{Played, IsReport}
use Rattle.fm_script_text.specs.Scripts.{ScriptOf, IsSaid}

-- A legal history in which a script's lines did their calls is tidy
abbrev pub ReportsAreTidy : Type 0
ReportsAreTidy =
    (s : ScriptOf) (limit : ℕ) (history : List Entry) (p : Played)
    → AllByRecursion IsSaid s.lines → IsReport s history p → IsLegal limit [] history → IsTidy limit [] history
