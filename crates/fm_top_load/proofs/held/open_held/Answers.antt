use Rattle.fm_top_load.proofs.Holding.{opened_held}
use Rattle.fm_top_load.proofs.held.open_held.Goals as goal

pub returns-in-Ok-clause-empty : goal.returns-in-Ok-clause-empty
returns-in-Ok-clause-empty g c =
    let v = g.M.Memory.view in
    opened_held (v c.args.m.now) (v c.open_arena.new.self) c.in-Ok.arena c.args.kind c.requires.alone
    (rw (← c.in-Ok.ensures.did.makes.same_limit) c.in-Ok.ensures.sound.limit) c.in-Ok.ensures.outside c.in-Ok.ensures.did
