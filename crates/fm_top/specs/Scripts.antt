-- How a script ends by what is found under its file's name.
use Rattle.std.specs.Prelude.{◌≡◌, ℕ, ◌<◌, ◌≤◌, List, length, Option, None, Some}
use Rattle.fm_script_report.specs.{Told.{IsRunOf}, Views.{ReportView}}
use Rattle.fm_script_text.specs.Scripts.{ScriptOf, IsScript, IsRefused}
use Rattle.fm_top.specs.Outcome.{Outcome, missing, too_long, script_refused, reported, script_file_limit}

-- what a script's run came to: one of the reports that some order of the workers' steps gives, which is kept
pub record IsReported (s : ScriptOf) (o : Outcome) : Type 0 where
  pub report : ReportView
  pub is_run : IsRunOf s report
  pub outcome : o ≡ reported report

pub data ScriptEnds (file : List ℕ) : Option (List ℕ) → Outcome → Type 0 where
  no_script : ScriptEnds file None (missing file)
  long_script : (bytes : List ℕ) → script_file_limit < length bytes → ScriptEnds file (Some bytes) too_long
  bad_script : (bytes : List ℕ) (line : ℕ) → length bytes ≤ script_file_limit → IsRefused bytes line
      → ScriptEnds file (Some bytes) (script_refused line)
  -- one of the reports that some order of the workers' steps gives: the one that is kept
  ran : (bytes : List ℕ) (s : ScriptOf) (report : ReportView) → length bytes ≤ script_file_limit → IsScript bytes s → IsRunOf s report
      → ScriptEnds file (Some bytes) (reported report)
