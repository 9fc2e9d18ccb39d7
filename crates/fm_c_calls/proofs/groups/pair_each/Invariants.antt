use Rattle.std.{proofs.Common.{◌≡◌, map}, specs.List.{range_with_len}}
use Rattle.fm_group.specs.Values.{number_in}
use Rattle.fm_c_calls.specs.Grouped.{values_in}
use Rattle.fm_c_calls.proofs.groups.pair_each.Given as goal

abbrev pub invariant-loop-n : goal.invariant-loop-n
invariant-loop-n l = l.pairs.items ≡ map (λ n. (number_in (values_in l.path l.records) l.records n, 1)) (range_with_len 0 l.n)
