use Rattle.std.proofs.Common.{◌≡◌, take}
use Rattle.fm_c_calls.specs.Grouped.{counted_of}
use Rattle.fm_c_calls.proofs.groups.counted_of.Given as goal

abbrev pub invariant-loop-k : goal.invariant-loop-k
invariant-loop-k l = l.counted.items ≡ counted_of (take l.k l.groups)
