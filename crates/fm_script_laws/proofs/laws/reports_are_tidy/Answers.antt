use Rattle.fm_script_laws.proofs.Reports.{report_tidy}
use Rattle.fm_script_laws.proofs.laws.reports_are_tidy.Goals as goal

pub returns : goal.returns
returns c = report_tidy
