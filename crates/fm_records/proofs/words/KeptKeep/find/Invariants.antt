use Rattle.std.proofs.Common.{◌≡◌, None, take}
use Rattle.fm_records.specs.Words.{found_at}
use Rattle.fm_records.proofs.words.KeptKeep.find.Given as goal

abbrev pub invariant-loop-k : goal.invariant-loop-k
invariant-loop-k l = found_at (take l.k l.self-inside.words) l.word ≡ None
