use Rattle.std.proofs.Common.{◌≡◌, ◌++◌, ◌∷◌, pos, length, take}
use Rattle.fm_c_calls.specs.Numbered.{long_of}
use Rattle.fm_c_calls.proofs.numbers.push_listed.Given as goal

abbrev pub invariant-loop-k : goal.invariant-loop-k
invariant-loop-k l = l.numbers.items ≡ l.fn.numbers.items ++ (pos 4 ∷ long_of (length l.list) ∷ take l.k l.list)
