use Rattle.std.proofs.Common.{◌≡◌, ℕ, ◌+◌, ◌^◌, ◌<◌, length, slice_index}
use Rattle.fm_workers.proofs.counts.Counts.sum.Given as goal

abbrev pub invariant-loop-k : goal.invariant-loop-k
invariant-loop-k l = record {
  all : length l.items ≡ 256;
  each : (j : ℕ) → j < l.k → slice_index l.items j ≡ slice_index l.self j + slice_index l.more j;
  fits : (j : ℕ) → j < l.k → slice_index l.items j < 2 ^ 64;
}
