use Rattle.std.proofs.Common.{sym, ap, ◌∙◌}
use Rattle.fm_lanes.specs.Value.{kind_of}
use Rattle.fm_segment.{specs.{Access.{DoesSetHere}, Region.{Region}}, proofs.{Access.{at_value, is_value}, Exits.{not_placed}, Learning.{after_set}}}
use Rattle.fm_segment.proofs.segment.Segment.set.Goals as goal

pub coding_of-order-requires : goal.coding_of-order-requires
coding_of-order-requires g c = is_value c.args.layout.now (kind_of c.args.v) c.requires.value

pub returns-in_err-place : goal.returns-in_err-place
returns-in_err-place g c = after_set c.args.offset c.requires (not_placed _ _ (sym c.writable_place_of.ensures.place ∙ c.in_err-place.was) c.from_residual.ensures.1)

pub returns : goal.returns
returns g c =
    after_set c.args.offset c.requires
    (at_value (λ id t. DoesSetHere (g.M.Memory.view c.args.m.now).caller id t c.args.v) c.args.layout.now (ap (λ (r : Region). r.arena) c.self.view_is)
    (is_value c.args.layout.now (kind_of c.args.v) c.requires.value) c.coding_of-order.ensures
    (sym c.writable_place_of.ensures.place ∙ c.in_ok-place.was) (λ l. c.put_value.ensures.did))
