use Rattle.std.proofs.Common.{sym, ◌∙◌}
use Rattle.fm_segment.proofs.Exits.{gave}
use Rattle.fm_visit.proofs.Values.{reaches_value, value_got, got_kind, not_got}
use Rattle.fm_visit.proofs.value.get.Goals as goal

pub returns-in_err-place-clause-got : goal.returns-in_err-place-clause-got
returns-in_err-place-clause-got g c =
    rw (gave c.from_residual.ensures.1) (not_got c.requires.inside c.args.offset c.args.layout.now (sym c.place_of.ensures.place ∙ c.in_err-place.was))

pub get_value-requires : goal.get_value-requires
get_value-requires g c =
    rw c.arena.ensures (reaches_value c.requires.inside c.args.offset c.args.layout.now c.requires.value c.coding_of-kind.ensures
    (sym c.place_of.ensures.place ∙ c.in_ok-place.was) c.in_ok-place.ensures.small)

pub returns-clause-got : goal.returns-clause-got
returns-clause-got g c =
    value_got c.requires.inside c.args.offset c.args.layout.now c.requires.value c.coding_of-kind.ensures (sym c.place_of.ensures.place ∙ c.in_ok-place.was)
    (rw c.arena.ensures at c.get_value.ensures.did) (rw c.arena.ensures at c.get_value.ensures.inside)

pub returns-clause-kind : goal.returns-clause-kind
returns-clause-kind g c =
    got_kind c.requires.inside c.args.offset c.args.layout.now c.requires.value c.coding_of-kind.ensures (rw c.arena.ensures at c.get_value.ensures.did)
