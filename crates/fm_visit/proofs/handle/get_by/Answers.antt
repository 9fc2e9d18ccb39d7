use Rattle.std.proofs.Common.{sym, ◌∙◌}
use Rattle.fm_segment.proofs.Exits.{gave}
use Rattle.fm_visit.proofs.Handles.{got_by, not_got_by, value_reaches, kind_got}
use Rattle.fm_visit.proofs.handle.get_by.Goals as goal

pub returns-in_err-place-clause-got : goal.returns-in_err-place-clause-got
returns-in_err-place-clause-got g c =
    rw (gave c.from_residual.ensures.1) (not_got_by c.args.base c.requires (sym c.place_of.ensures.place ∙ c.in_err-place.was))

pub get_value-requires : goal.get_value-requires
get_value-requires g c = rw (c.arena.ensures, c.value-value.ensures, c.resolved.ensures) (value_reaches c.requires c.in_ok-place.ensures.stands)

pub returns-clause-got : goal.returns-clause-got
returns-clause-got g c =
    got_by c.args.base c.requires (sym c.place_of.ensures.place ∙ c.in_ok-place.was) (rw (c.arena.ensures, c.value-value.ensures, c.resolved.ensures) at c.get_value.ensures.did)
    (rw c.arena.ensures at c.get_value.ensures.inside)

pub returns-clause-kind : goal.returns-clause-kind
returns-clause-kind g c = kind_got c.args.handle.now (rw (c.arena.ensures, c.value-value.ensures, c.resolved.ensures) at c.get_value.ensures.did)
