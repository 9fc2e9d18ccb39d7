use Rattle.std.proofs.{Common.{rules, ◌<◌, sym, subst, take, length, get_or, w64, pos}, lemmas.Int.{to_z-of_z}}
use Rattle.std.{specs.Prelude.{List, ℤ}, proofs.lemmas.{List.{take_more}}}
use Rattle.fm_group_lists.{specs.{Climbing.{Puts}, Groups.{AreSummed, Group}}, proofs.Climbing.{climb_to, put_summed}}
use Rattle.fm_group_lists.proofs.sums.summed.Goals as goal

pub loop-k-preserved : goal.loop-k-preserved
loop-k-preserved c =
    let xs = c.args.sorted.now in
    let k = c.loop-k.k in
    let x = get_or c.args.sorted.now c.loop-k.k (pos 0, 0) in
    let number = to_z-of_z w64 x.0 (search rules) in
    let puts = subst (λ (n : ℤ). Puts n x.1 c.loop-k.sums.items c.put.new.sums.items) number c.in_ok-put.ensures in
    let below : c.loop-k.k < length c.args.sorted.now = search rules in
    subst (λ (ys : List Group). AreSummed ys c.put.new.sums.items) (sym (take_more xs k (pos 0, 0) below))
    (put_summed (take k xs) puts c.loop-k.invariant (climb_to xs k (pos 0, 0) c.requires below) (search rules))
