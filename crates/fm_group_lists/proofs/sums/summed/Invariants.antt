use Rattle.std.proofs.Common.{take}
use Rattle.fm_group_lists.specs.Groups.{AreSummed}
use Rattle.fm_group_lists.proofs.sums.summed.Given as goal

abbrev pub invariant-loop-k : goal.invariant-loop-k
invariant-loop-k l = AreSummed (take l.k l.sorted) l.sums.items
