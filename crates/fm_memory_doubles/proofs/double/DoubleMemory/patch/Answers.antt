use Rattle.fm_base.{specs.Does.{patched}, proofs.Learning.{after_patch}}
use Rattle.fm_memory_doubles.proofs.{Calling.{patches}, Beside.{patch_after}}
use Rattle.fm_memory_doubles.proofs.double.DoubleMemory.patch.Goals as goal

pub invariant_of-self : goal.invariant_of-self
unfolding patched
invariant_of-self g c =
    (patches c.args.word c.args.mask c.args.bits c.patch-found.result c.self.invariant
    (rw (← c.self.view_is) at c.entered-a.ensures) c.patch-found.ensures.did c.patch-found.ensures.inside c.hear.ensures).keeps

pub returns : goal.returns
unfolding patched
returns g c =
    after_patch c.come_to.ensures.sound
    (patch_after c.args.word c.args.mask c.args.bits c.patch-found.result c.come_to.ensures.makes
    (rw (← c.self.view_is)
    (patches c.args.word c.args.mask c.args.bits c.patch-found.result c.self.invariant
    (rw (← c.self.view_is) at c.entered-a.ensures) c.patch-found.ensures.did c.patch-found.ensures.inside c.hear.ensures).did))
