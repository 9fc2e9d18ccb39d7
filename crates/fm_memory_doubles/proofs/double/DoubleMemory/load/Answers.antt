use Rattle.std.proofs.Common.{refl}
use Rattle.fm_base.{specs.Calls.{Read, Found}, proofs.Learning.{after_act}}
use Rattle.fm_memory_doubles.proofs.{Calling.{loads}, Beside.{act_after}}
use Rattle.fm_memory_doubles.proofs.double.DoubleMemory.load.Goals as goal

pub invariant_of-self : goal.invariant_of-self
invariant_of-self g c =
    (loads c.args.word c.load-found.result c.self.invariant (rw (← c.self.view_is) at c.entered-a.ensures) c.load-found.ensures.did c.hear.ensures).keeps

pub returns : goal.returns
returns g c =
    after_act (λ id. refl) c.come_to.ensures.sound
    (act_after (λ a. Read a c.args.word) (Found c.load-found.result) c.come_to.ensures.makes
    (rw (← c.self.view_is)
    (loads c.args.word c.load-found.result c.self.invariant (rw (← c.self.view_is) at c.entered-a.ensures) c.load-found.ensures.did c.hear.ensures).did))
