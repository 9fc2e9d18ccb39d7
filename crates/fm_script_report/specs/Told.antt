-- What a report tells of a script's run.
use Rattle.std.specs.Prelude.{◌≡◌, ℕ, List, [], map, Option}
use Rattle.fm_base.specs.{declared.{arena_id.ArenaId.{ArenaId}, caller.Caller.{Caller}}, Histories.{IsTidy}}
use Rattle.fm_rule_facts.specs.Views.{limit_of}
use Rattle.fm_rule.specs.Finishing.{FinishedView, IsFinished}
use Rattle.fm_script_lines.specs.{declared.reply.Reply.{Reply}, Report.{Done, IsReport, Played, all_done, callers, number_of}, Standings.{arena_of}}
use Rattle.fm_script_text.specs.{declared.line.Line.{Line}, Scripts.{ScriptOf}}
use Rattle.fm_script_report.specs.{declared.line.ReportLine.{ReportLine}, Alive.{alive_of, arena_by}, Views.{ReportView}}

abbrev pub told : List ℕ → Reply → ReportLine
told text reply = record { text = text; reply = reply }

-- these are the lines' texts, each with its reply
pub record AreTold (ls : List Line) (rs : List Reply) (ts : List ReportLine) : Type 0 where
  pub texts : map (λ t. t.text) ts ≡ map (λ l. l.text) ls
  pub replies : map (λ t. t.reply) ts ≡ rs

-- the report of the script's lines, where the line that makes a name opened this arena
abbrev pub report_of : (List ℕ → Option ArenaId) → List Line → List ReportLine → List Caller → FinishedView → ReportView
report_of arena ls told callers f = record { finished = f; callers = callers; lines = told; alive = alive_of f arena ls }

-- ---- of a script that was played

-- what each line opened, in the order of printing
abbrev pub opened_of : List Done → List (Option ArenaId)
opened_of ds = map (λ d. arena_of d.made) ds

abbrev pub told_of : List Done → List ReportLine
told_of ds = map (λ d. told d.line.text d.reply) ds

-- The script's lines did in the report's history what it tells, by its callers, and left the bytes that it tells
pub record IsReportOf (s : ScriptOf) (r : ReportView) : Type 0 where
  pub shape : r.finished.shape ≡ s.shape
  pub played : Played
  pub did : IsReport s r.finished.history played
  pub by : r.callers ≡ callers played
  pub lines : r.lines ≡ told_of (all_done played)
  pub alive : r.alive ≡ alive_of r.finished (arena_by (number_of played) (opened_of (all_done played))) s.lines

-- The script was run: this is the report of it, over a pool that is finished. Its history is one of one-thread arenas, whose
-- words are lent rightly, that the pool's words show; and it changes only bytes that were given
pub record IsRunOf (s : ScriptOf) (r : ReportView) : Type 0 where
  pub report : IsReportOf s r
  pub finished : IsFinished r.finished
  pub tidy : IsTidy (limit_of r.finished.shape) [] r.finished.history
