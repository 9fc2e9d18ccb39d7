use Rattle.fm_base.proofs.Learning.{after_leave}
use Rattle.fm_memory_doubles.proofs.Calling.{leaves, sound_of}
use Rattle.fm_memory_doubles.proofs.double.DoubleMemory.leave.Goals as goal

pub invariant_of-self : goal.invariant_of-self
invariant_of-self g c = (leaves c.self.invariant (rw (← c.self.view_is) at c.entered-a.ensures) c.leave.ensures.did c.hear.ensures).keeps

pub returns : goal.returns
returns g c =
    rw (← c.self.view_is)
    (after_leave (sound_of c.self.invariant) (leaves c.self.invariant (rw (← c.self.view_is) at c.entered-a.ensures) c.leave.ensures.did c.hear.ensures).did)
