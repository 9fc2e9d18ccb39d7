use Rattle.std.proofs.Common.{List, refl, ap, ◌∙◌, set, Some}
use Rattle.fm_workers_shares.{specs.Placing.{Slot}, proofs.Popping.{none_gone, one_gone}}
use Rattle.fm_workers_shares.proofs.slots.put_all.Goals as goal

pub loop-one-init : goal.loop-one-init
loop-one-init c = none_gone c.args.done.items _ refl

pub loop-one-preserved : goal.loop-one-preserved
loop-one-preserved c = one_gone _ _ _ c.in-Some.one _ _ c.loop-one.invariant c.in-Some.ensures.items
    (λ gone is. c.put.ensures ∙ ap (λ (xs : List Slot). set xs c.in-Some.one.job (Some c.in-Some.one.answer)) is)
