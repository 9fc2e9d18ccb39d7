-- What a report is seen as.
use Rattle.std.specs.Prelude.{List}
use Rattle.fm_base.specs.declared.caller.Caller.{Caller}
use Rattle.fm_rule.specs.Finishing.{FinishedView}
use Rattle.fm_script_report.specs.declared.{arena.AliveArena.{AliveArena}, line.ReportLine.{ReportLine}}

pub record ReportView : Type 0 where
  -- the pool that the script ran on: its shape, its whole history, and its words
  pub finished : FinishedView
  -- pass 0's, and then the workers'
  pub callers : List Caller
  -- in the order of printing
  pub lines : List ReportLine
  -- the arenas that are alive at the end, in the order in which the script's lines open them
  pub alive : List AliveArena
