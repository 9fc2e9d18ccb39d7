-- A report tells no more arenas than its pool has slots.
use Rattle.std.specs.Prelude.{◌≤◌, length}
use Rattle.fm_script_report.specs.{Told.{IsRunOf}, Views.{ReportView}}
use Rattle.fm_script_lines.specs.Admitted.{KeepRules}
use Rattle.fm_script_text.specs.Scripts.{ScriptOf}

-- Of a script whose lines keep the rules
abbrev pub AliveFit : Type 0
AliveFit = (s : ScriptOf) (r : ReportView) → KeepRules s.lines → IsRunOf s r → length r.alive ≤ r.finished.shape.slots
