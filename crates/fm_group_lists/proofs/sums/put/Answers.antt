use Rattle.std.{proofs.{Common.{rules, w64, refl, subst}, lemmas.Int.{to_z-of_z}}, specs.Prelude.{ℤ}}
use Rattle.fm_group_lists.{specs.Climbing.{Puts}, proofs.{Taking.{puts_behind}}}
use Rattle.fm_group_lists.proofs.sums.put.Goals as goal

pub returns : goal.returns
returns c =
    subst (λ (n : ℤ). Puts n c.args.count c.args.sums.now.items c.push.new.self.items) (to_z-of_z w64 c.args.number (search (rules, c.ranges.number)))
    (puts_behind c.take_last-before.ensures c.in_ok-push.ensures.items refl (search (rules, c.ranges.count)))
