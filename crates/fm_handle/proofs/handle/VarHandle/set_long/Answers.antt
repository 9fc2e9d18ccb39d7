use Rattle.std.proofs.Common.{rules, sym}
use Rattle.fm_segment.proofs.Exits.{not_placed}
use Rattle.fm_handle.proofs.Learning.{after_set_long}
use Rattle.fm_handle.proofs.handle.VarHandle.set_long.Goals as goal

pub returns-in_err-place : goal.returns-in_err-place
returns-in_err-place g c =
    after_set_long c.requires c.in_err-place.ensures.finds (not_placed _ _ (sym c.in_err-place.ensures.finds.place) c.from_residual.ensures.1)

pub returns : goal.returns
returns g c = after_set_long c.requires c.in_ok-place.ensures.finds (search rules)
