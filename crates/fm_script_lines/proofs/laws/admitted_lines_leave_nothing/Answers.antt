use Rattle.fm_script_lines.proofs.AdmittedEnds.{lines_leave_nothing}
use Rattle.fm_script_lines.proofs.laws.admitted_lines_leave_nothing.Goals as goal

pub returns : goal.returns
returns c = lines_leave_nothing
