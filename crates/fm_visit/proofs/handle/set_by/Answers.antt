use Rattle.std.proofs.Common.{sym, ◌∙◌}
use Rattle.fm_segment.proofs.Exits.{gave}
use Rattle.fm_visit.proofs.Handles.{put_by, not_put_by, value_reaches}
use Rattle.fm_visit.proofs.handle.set_by.Goals as goal

pub returns-in_err-place : goal.returns-in_err-place
returns-in_err-place g c =
    rw (gave c.from_residual.ensures.1) (not_put_by c.args.base c.requires.call c.args.v (sym c.writable_place_of.ensures.place ∙ c.in_err-place.was))

pub put_value-requires : goal.put_value-requires
put_value-requires g c =
    rw (c.arena.ensures, c.requires.value) (value_reaches c.requires.call c.in_ok-place.ensures.stands)

pub returns : goal.returns
returns g c =
    put_by c.args.base c.requires.call c.args.v c.requires.value (sym c.writable_place_of.ensures.place ∙ c.in_ok-place.was)
    (rw (c.arena.ensures, c.value.ensures, c.resolved.ensures) at c.put_value.ensures.did) (rw c.arena.ensures at c.put_value.ensures.inside)
