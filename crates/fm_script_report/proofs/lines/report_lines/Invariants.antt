use Rattle.std.proofs.Common.{◌+◌, ◌-◌, ◌≤◌, length, map, take, vec_capacity}
use Rattle.fm_script_report.specs.Told.{AreTold}
use Rattle.fm_script_report.proofs.lines.report_lines.Given as goal

abbrev pub invariant-loop-k : goal.invariant-loop-k
invariant-loop-k l = record {
  told : AreTold (take l.k (map (λ x. x.now) l.order)) (take l.k l.replies) l.lines.items;
  room : length l.lines.items + (length l.order - l.k) ≤ vec_capacity l.lines;
}
