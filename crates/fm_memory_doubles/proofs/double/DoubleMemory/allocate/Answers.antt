use Rattle.fm_base.proofs.Learning.{after_allocate}
use Rattle.fm_memory_doubles.proofs.Calling.{allocates, never_full, sound_of}
use Rattle.fm_memory_doubles.proofs.double.DoubleMemory.allocate.Goals as goal

pub invariant_of-self : goal.invariant_of-self
invariant_of-self g c =
    (allocates c.args.id c.args.size c.args.align c.allocate-answer.result c.self.invariant
    (rw (← c.self.view_is) at c.requires).outside c.allocate-answer.ensures.got.did c.allocate-answer.ensures.got.outside c.hear.ensures).keeps

pub returns : goal.returns
returns g c =
    let r = rw (← c.self.view_is) at c.requires in
    rw (← c.self.view_is)
    (after_allocate r (sound_of c.self.invariant) c.allocate-answer.ensures.got.comes (never_full c.allocate-answer.ensures.got.comes)
    (allocates c.args.id c.args.size c.args.align c.allocate-answer.result c.self.invariant
    (rw (← c.self.view_is) at c.requires).outside c.allocate-answer.ensures.got.did c.allocate-answer.ensures.got.outside c.hear.ensures).did)
