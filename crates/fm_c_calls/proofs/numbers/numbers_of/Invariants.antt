use Rattle.std.proofs.Common.{◌≡◌, take}
use Rattle.fm_c_calls.specs.Numbered.{numbers_of}
use Rattle.fm_c_calls.proofs.numbers.numbers_of.Given as goal

abbrev pub invariant-loop-one : goal.invariant-loop-one
invariant-loop-one l = l.numbers.items ≡ numbers_of (take l.one-index l.found)
