use Rattle.std.{proofs.Common.{sym, subst}, specs.Prelude.{List}}
use Rattle.fm_group_lists.{specs.{Climbing.{IsClimbing}, Groups.{AreSummed, Group}}, proofs.Ordering.{sorted_climb, summed_order}}
use Rattle.fm_group_lists.proofs.groups.Groups.of.Goals as goal

pub summed-requires : goal.summed-requires
summed-requires c = subst IsClimbing (sym c.deref.ensures.value) (sorted_climb c.sort_unstable.new.self.items c.sort_unstable.ensures.sorted)

pub returns-clause-summed : goal.returns-clause-summed
returns-clause-summed c =
    summed_order c.args.pairs.items c.sort_unstable.new.self.items c.sort_unstable.ensures.permutation c.in_ok-sums.sums.items
    (subst (λ (xs : List Group). AreSummed xs c.in_ok-sums.sums.items) c.deref.ensures.value c.in_ok-sums.ensures.summed)
