use Rattle.std.proofs.Common.{◌≡◌, take}
use Rattle.fm_records.specs.Stored.{numbers_of}
use Rattle.fm_records.proofs.stored.Stored.longs.Given as goal

abbrev pub invariant-loop-k : goal.invariant-loop-k
invariant-loop-k l = l.longs.items ≡ take l.k (numbers_of l.self)
