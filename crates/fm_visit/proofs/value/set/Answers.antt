use Rattle.std.proofs.Common.{sym, ◌∙◌}
use Rattle.fm_lanes.specs.Value.{kind_of}
use Rattle.fm_segment.proofs.{Access.{is_value}, Exits.{gave}}
use Rattle.fm_visit.proofs.Values.{reaches_set, value_put, not_set}
use Rattle.fm_visit.proofs.value.set.Goals as goal

pub returns-in_err-place : goal.returns-in_err-place
returns-in_err-place g c =
    rw (gave c.from_residual.ensures.1) (not_set c.requires.inside c.args.offset c.args.layout.now c.args.v (sym c.writable_place_of.ensures.place ∙ c.in_err-place.was))

pub coding_of-order-requires : goal.coding_of-order-requires
coding_of-order-requires g c = is_value c.args.layout.now (kind_of c.args.v) c.requires.value

pub put_value-requires : goal.put_value-requires
put_value-requires g c =
    rw c.arena.ensures (reaches_set c.requires.inside c.args.offset c.args.layout.now c.args.v c.requires.value
    (sym c.writable_place_of.ensures.place ∙ c.in_ok-place.was) c.in_ok-place.ensures.small)

pub returns : goal.returns
returns g c =
    value_put c.requires.inside c.args.offset c.args.layout.now c.args.v c.requires.value c.coding_of-order.ensures
    (sym c.writable_place_of.ensures.place ∙ c.in_ok-place.was) (rw c.arena.ensures at c.put_value.ensures.did) (rw c.arena.ensures at c.put_value.ensures.inside)
