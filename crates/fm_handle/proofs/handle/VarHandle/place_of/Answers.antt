use Rattle.std.proofs.Common.{sym, ◌∙◌}
use Rattle.fm_segment.proofs.Exits.{gave}
use Rattle.fm_handle.proofs.Places.{from_root, out, value_stands}
use Rattle.fm_handle.proofs.handle.VarHandle.place_of.Goals as goal

pub returns-in_err-offset-clause-place : goal.returns-in_err-offset-clause-place
returns-in_err-offset-clause-place c =
    gave c.from_residual.ensures.1 ∙ sym (out 0 c.args.self.now.dims c.args.indices.now _ _ (rw c.self.view_is at c.in_err-offset.ensures.out))

pub returns-in_err-root-clause-place : goal.returns-in_err-root-clause-place
returns-in_err-root-clause-place c =
    gave c.from_residual-in_err-root.ensures.1 ∙ sym (from_root c.args.base c.args.indices.now c.args.self.now c.args.s.now
    (rw c.self.view_is at c.in_ok-offset.ensures.admitted) (sym c.root_place.ensures.place ∙ c.in_err-root.was))

pub returns-clause-place : goal.returns-clause-place
returns-clause-place c =
    rw (c.in_ok-offset.ensures.offset, c.self.view_is) (sym (from_root c.args.base c.args.indices.now c.args.self.now c.args.s.now
    (rw c.self.view_is at c.in_ok-offset.ensures.admitted) (sym c.root_place.ensures.place ∙ c.in_ok-root.was)))

pub returns-clause-stands : goal.returns-clause-stands
returns-clause-stands c =
    rw (c.in_ok-offset.ensures.offset, c.self.view_is) (value_stands c.args.base c.args.indices.now c.args.self.now c.args.s.now c.in_ok-root.root
    (rw c.self.view_is at c.in_ok-offset.ensures.inside) (rw c.self.view_is at c.in_ok-offset.ensures.admitted) c.in_ok-root.ensures.stands)
