use Rattle.std.proofs.Common.{take, vec_capacity}
use Rattle.fm_script_lines.{specs.{Ordering.{is_by}, Report.{lines_by}}, proofs.Rows.{SoFar}}
use Rattle.fm_script_lines.proofs.playing.play.Given as goal

abbrev pub invariant-loop-line : goal.invariant-loop-line
invariant-loop-line g l =
    SoFar l.fn.m l.fn.table (vec_capacity l.fn.replies) (lines_by (is_by l.who) (take l.line-index l.lines)) l.m l.table l.replies
