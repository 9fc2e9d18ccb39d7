use Rattle.std.proofs.Common.{◌≡◌, ◌++◌, take}
use Rattle.fm_script_lines.specs.{Ordering.{is_by, lines_at}, Report.{lines_by}}
use Rattle.fm_script_lines.proofs.ordering.add_lines.Given as goal

abbrev pub invariant-loop-line : goal.invariant-loop-line
invariant-loop-line l = lines_at l.order.items ≡ lines_at l.fn.order.items ++ lines_by (is_by l.who) (take l.line-index l.lines)
