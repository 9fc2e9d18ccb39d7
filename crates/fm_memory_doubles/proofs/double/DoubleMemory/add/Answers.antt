use Rattle.std.proofs.Common.{refl}
use Rattle.fm_base.{specs.Calls.{Add, Found}, proofs.Learning.{after_act}}
use Rattle.fm_memory_doubles.proofs.{Calling.{adds}, Beside.{act_after}}
use Rattle.fm_memory_doubles.proofs.double.DoubleMemory.add.Goals as goal

pub invariant_of-self : goal.invariant_of-self
invariant_of-self g c =
    (adds c.args.word c.args.n c.add-found.result c.self.invariant (rw (← c.self.view_is) at c.entered-a.ensures) c.add-found.ensures.did c.hear.ensures).keeps

pub returns : goal.returns
returns g c =
    after_act (λ id. refl) c.come_to.ensures.sound
    (act_after (λ a. Add a c.args.word c.args.n) (Found c.add-found.result) c.come_to.ensures.makes
    (rw (← c.self.view_is)
    (adds c.args.word c.args.n c.add-found.result c.self.invariant (rw (← c.self.view_is) at c.entered-a.ensures) c.add-found.ensures.did c.hear.ensures).did))
