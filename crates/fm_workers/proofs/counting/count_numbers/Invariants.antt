use Rattle.std.proofs.Common.{take}
use Rattle.fm_workers.specs.Counts.{CountsToo}
use Rattle.fm_workers.proofs.counting.count_numbers.Given as goal

abbrev pub invariant-loop-i : goal.invariant-loop-i
invariant-loop-i l = CountsToo (take l.i l.numbers) l.initial.counts l.counts
