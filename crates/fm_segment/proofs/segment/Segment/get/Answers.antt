use Rattle.std.proofs.Common.{sym, ap, ◌∙◌}
use Rattle.fm_segment.{specs.{Access.{DoesGetHere}, Region.{Region}}, proofs.{Access.{at_value}, Exits.{not_placed}, Learning.{after_get}}}
use Rattle.fm_segment.proofs.segment.Segment.get.Goals as goal

pub returns-in_err-place : goal.returns-in_err-place
returns-in_err-place g c = after_get c.args.offset c.requires (not_placed _ _ (sym c.place_of.ensures.place ∙ c.in_err-place.was) c.from_residual.ensures.1)

pub returns : goal.returns
returns g c =
    after_get c.args.offset c.requires
    (at_value (DoesGetHere (g.M.Memory.view c.args.m.now).caller) c.args.layout.now (ap (λ (r : Region). r.arena) c.self.view_is) c.requires.value
    c.coding_of-kind.ensures (sym c.place_of.ensures.place ∙ c.in_ok-place.was) (λ l. c.get_value.ensures.did))
