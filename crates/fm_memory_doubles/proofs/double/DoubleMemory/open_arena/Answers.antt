use Rattle.fm_base.proofs.Learning.{after_open}
use Rattle.fm_memory_doubles.proofs.Calling.{opens, found_none, sound_of}
use Rattle.fm_memory_doubles.proofs.double.DoubleMemory.open_arena.Goals as goal

pub invariant_of-self : goal.invariant_of-self
invariant_of-self g c =
    (opens c.args.kind c.open_arena-answer.result c.self.invariant
    (rw (← c.self.view_is) at c.requires).outside c.open_arena-answer.ensures.got.did c.open_arena-answer.ensures.got.outside c.hear.ensures).keeps

pub returns : goal.returns
returns g c =
    let r = rw (← c.self.view_is) at c.requires in
    rw (← c.self.view_is)
    (after_open r.outside (sound_of c.self.invariant) c.open_arena-answer.ensures.got.comes (found_none c.self.inside.heard.items c.hear.ensures)
    (opens c.args.kind c.open_arena-answer.result c.self.invariant
    (rw (← c.self.view_is) at c.requires).outside c.open_arena-answer.ensures.got.did c.open_arena-answer.ensures.got.outside c.hear.ensures).did)
