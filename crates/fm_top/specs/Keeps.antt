-- What a run keeps for its caller to look at.
use Rattle.std.specs.Prelude.{Option, None, Some}
use Rattle.fm_script_report.specs.Views.{ReportView}
use Rattle.fm_rule.specs.Finishing.{FinishedView}
use Rattle.fm_top.specs.declared.outcome.left.Left.{Left, TheVariants.{Pool, Report}}

-- the pool that is kept, if one is
abbrev pub pool_in : Left → Option FinishedView
pool_in (Pool finished) = Some finished
pool_in left = None

-- the report that is kept, if one is
abbrev pub report_in : Left → Option ReportView
report_in (Report report) = Some report
report_in left = None
