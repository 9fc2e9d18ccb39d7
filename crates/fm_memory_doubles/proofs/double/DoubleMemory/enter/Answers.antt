use Rattle.fm_base.proofs.Learning.{after_enter}
use Rattle.fm_memory_doubles.proofs.{Calling.{enters}, Beside.{enter_after}}
use Rattle.fm_memory_doubles.proofs.double.DoubleMemory.enter.Goals as goal

pub invariant_of-self : goal.invariant_of-self
invariant_of-self g c =
    rw c.entered_by-self-inside.ensures
    (enters c.args.id c.enter-answer.result c.self.invariant
    (rw (← c.self.view_is) at c.come_before.ensures.can).outside c.enter-answer.ensures.did c.hear.ensures).keeps

pub returns : goal.returns
returns g c =
    after_enter c.requires c.come_before.ensures.sound
    (enter_after c.args.id c.enter-answer.result c.come_before.ensures.makes
    (rw (← c.self.view_is)
    (enters c.args.id c.enter-answer.result c.self.invariant
    (rw (← c.self.view_is) at c.come_before.ensures.can).outside c.enter-answer.ensures.did c.hear.ensures).did))
