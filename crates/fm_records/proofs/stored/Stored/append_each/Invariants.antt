use Rattle.std.proofs.Common.{◌≡◌, ◌++◌, fold, take}
use Rattle.fm_records.specs.Stored.{numbers_of, width_in, width_with}
use Rattle.fm_records.proofs.stored.Stored.append_each.Given as goal

abbrev pub invariant-loop-k : goal.invariant-loop-k
invariant-loop-k l = record {
  numbers : numbers_of l.self ≡ numbers_of l.fn.self ++ take l.k (numbers_of l.more);
  width : width_in l.self ≡ fold width_with (width_in l.fn.self) (take l.k (numbers_of l.more));
}
