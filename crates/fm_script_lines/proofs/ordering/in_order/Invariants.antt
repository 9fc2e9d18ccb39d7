use Rattle.std.proofs.Common.{◌≡◌, ◌++◌}
use Rattle.fm_script_lines.specs.{Ordering.{AreStarts, lines_at, worker_lines}, Report.{is_first, lines_by}}
use Rattle.fm_script_lines.proofs.ordering.in_order.Given as goal

abbrev pub invariant-loop-worker : goal.invariant-loop-worker
invariant-loop-worker l = record {
  so_far : lines_at l.order.items ≡ lines_by is_first l.lines ++ worker_lines l.worker 1 l.lines;
  starts : AreStarts l.lines l.worker l.starts.items;
}
