use Rattle.std.proofs.Common.{◌-◌, ◌≤◌}
use Rattle.fm_workers.proofs.ByRuns.{CountedTo}
use Rattle.fm_workers.proofs.counting.count_records.Given as goal

abbrev pub invariant-loop-from : goal.invariant-loop-from
invariant-loop-from g l = record {
  so_far : CountedTo (g.M.Memory.view l.fn.m) (g.M.Memory.view l.m) l.q l.region l.from l.counts;
  within : l.from ≤ l.count;
}

abbrev pub decreases-loop-from : goal.decreases-loop-from
decreases-loop-from g l = l.count - l.from
