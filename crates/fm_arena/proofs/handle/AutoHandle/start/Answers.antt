use Rattle.std.proofs.lemmas.Result.{err_from_is_err_and}
use Rattle.fm_arena.proofs.Opening.{starts, starts_not}
use Rattle.fm_arena.proofs.handle.AutoHandle.start.Goals as goal

pub returns-in_err-arena : goal.returns-in_err-arena
returns-in_err-arena g c =
    let p = err_from_is_err_and c.from_residual.result c.from_residual.ensures.1 in
    rw (← c.m.view_is, p.1, p.2) (starts_not c.in_err-arena.ensures)

pub returns : goal.returns
returns g c = rw (← c.m.view_is, c.of-maker.ensures.same) (starts c.in_ok-arena.ensures c.of-maker.ensures.maker)
