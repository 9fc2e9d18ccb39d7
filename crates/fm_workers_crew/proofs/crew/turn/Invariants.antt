use Rattle.std.proofs.Common.{◌≡◌, ◌+◌, ◌≤◌, ◌++◌, reverse, vec_len, vec_capacity}
use Rattle.fm_workers_crew.proofs.crew.turn.Given as goal

abbrev pub invariant-loop-task : goal.invariant-loop-task
invariant-loop-task g l = record {
  moved : l.to.items ++ reverse l.from.items ≡ l.fn.to.items ++ reverse l.fn.from.items;
  count : vec_len l.to + vec_len l.from ≡ vec_len l.fn.to + vec_len l.fn.from;
  room : vec_len l.to + vec_len l.from ≤ vec_capacity l.to;
  same_room : vec_capacity l.from ≡ vec_capacity l.fn.from;
}

abbrev pub decreases-loop-task : goal.decreases-loop-task
decreases-loop-task g l = vec_len l.from
