use Rattle.fm_base.proofs.Learning.{after_close}
use Rattle.fm_memory_doubles.proofs.Calling.{closes, sound_of}
use Rattle.fm_memory_doubles.proofs.double.DoubleMemory.close.Goals as goal

pub invariant_of-self : goal.invariant_of-self
invariant_of-self g c =
    (closes c.args.id c.close-answer.result c.self.invariant
    (rw (← c.self.view_is) at c.requires).outside c.close-answer.ensures.did c.close-answer.ensures.outside
    (rw c.caller-caller.ensures.is at c.hear.ensures)).keeps

pub returns : goal.returns
returns g c =
    let r = rw (← c.self.view_is) at c.requires in
    rw (← c.self.view_is)
    (after_close r (sound_of c.self.invariant)
    (closes c.args.id c.close-answer.result c.self.invariant
    (rw (← c.self.view_is) at c.requires).outside c.close-answer.ensures.did c.close-answer.ensures.outside
    (rw c.caller-caller.ensures.is at c.hear.ensures)).did)
