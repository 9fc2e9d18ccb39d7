use Rattle.std.proofs.Common.{◌≡◌, ◌%◌, ◌^◌, take}
use Rattle.fm_group_lists.specs.Groups.{total_of}
use Rattle.fm_group_lists.proofs.groups.Groups.total.Given as goal

abbrev pub invariant-loop-k : goal.invariant-loop-k
invariant-loop-k l = l.total ≡ total_of (take l.k l.self) % 2 ^ 64
