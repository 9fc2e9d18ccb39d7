use Rattle.std.proofs.Common.{refl}
use Rattle.fm_base.{specs.Calls.{Write, Fine}, proofs.Learning.{after_act}}
use Rattle.fm_memory_doubles.proofs.{Calling.{stores}, Beside.{act_after}}
use Rattle.fm_memory_doubles.proofs.double.DoubleMemory.store.Goals as goal

pub invariant_of-self : goal.invariant_of-self
invariant_of-self g c = (stores c.args.word c.args.v c.self.invariant (rw (← c.self.view_is) at c.entered-a.ensures) c.store.ensures.did c.hear.ensures).keeps

pub returns : goal.returns
returns g c =
    after_act (λ id. refl) c.come_to.ensures.sound
    (act_after (λ a. Write a c.args.word c.args.v) Fine c.come_to.ensures.makes
    (rw (← c.self.view_is)
    (stores c.args.word c.args.v c.self.invariant (rw (← c.self.view_is) at c.entered-a.ensures) c.store.ensures.did c.hear.ensures).did))
