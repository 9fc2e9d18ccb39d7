use Rattle.std.proofs.Common.{rules, sym, ◌∙◌}
use Rattle.fm_segment.proofs.Exits.{not_placed}
use Rattle.fm_handle.proofs.Learning.{after_set}
use Rattle.fm_handle.proofs.handle.VarHandle.set.Goals as goal

pub returns-in_err-place : goal.returns-in_err-place
returns-in_err-place g c =
    after_set c.args.base c.requires (not_placed _ _ (sym c.writable_place_of.ensures.place ∙ c.in_err-place.was) c.from_residual.ensures.1)

pub returns : goal.returns
returns g c = after_set c.args.base c.requires (search rules)
