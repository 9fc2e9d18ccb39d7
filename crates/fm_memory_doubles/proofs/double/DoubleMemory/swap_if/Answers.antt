use Rattle.std.proofs.Common.{refl}
use Rattle.fm_base.{specs.Calls.{SwapIf, Found}, proofs.Learning.{after_act}}
use Rattle.fm_memory_doubles.proofs.{Calling.{swaps}, Beside.{act_after}}
use Rattle.fm_memory_doubles.proofs.double.DoubleMemory.swap_if.Goals as goal

pub invariant_of-self : goal.invariant_of-self
invariant_of-self g c =
    (swaps c.args.word c.args.old c.args.new c.swap_if-found.result c.self.invariant
    (rw (← c.self.view_is) at c.entered-a.ensures) c.swap_if-found.ensures.did c.hear.ensures).keeps

pub returns : goal.returns
returns g c =
    after_act (λ id. refl) c.come_to.ensures.sound
    (act_after (λ a. SwapIf a c.args.word c.args.old c.args.new) (Found c.swap_if-found.result) c.come_to.ensures.makes
    (rw (← c.self.view_is)
    (swaps c.args.word c.args.old c.args.new c.swap_if-found.result c.self.invariant
    (rw (← c.self.view_is) at c.entered-a.ensures) c.swap_if-found.ensures.did c.hear.ensures).did))
