use Rattle.std.{proofs.Common.{◌≡◌, ◌*◌, ◌≤◌, take}, specs.List.{sum}}
use Rattle.fm_workers.proofs.counts.Counts.total.Given as goal

-- so far; and each is of 64 bits
abbrev pub invariant-loop-k : goal.invariant-loop-k
invariant-loop-k l = record {
  sums : l.total ≡ sum (take l.k l.self);
  fits : l.total ≤ l.k * 18446744073709551615;
}
