use Rattle.std.proofs.Common.{◌≡◌, ◌≤◌, length, take}
use Rattle.fm_script_lines.specs.{Ordering.{is_by}, Report.{lines_by}}
use Rattle.fm_script_lines.proofs.ordering.count_lines.Given as goal

abbrev pub invariant-loop-line : goal.invariant-loop-line
invariant-loop-line l = record {
  count : l.count ≡ length (lines_by (is_by l.who) (take l.line-index l.lines));
  few : l.count ≤ l.line-index;
}
