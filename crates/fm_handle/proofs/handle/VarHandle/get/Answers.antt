use Rattle.std.proofs.Common.{rules, sym, ◌∙◌}
use Rattle.fm_segment.proofs.Exits.{not_placed}
use Rattle.fm_handle.proofs.Learning.{after_get}
use Rattle.fm_handle.proofs.handle.VarHandle.get.Goals as goal

pub returns-in_err-place : goal.returns-in_err-place
returns-in_err-place g c = after_get c.args.base c.requires (not_placed _ _ (sym c.place_of.ensures.place ∙ c.in_err-place.was) c.from_residual.ensures.1)

pub returns-in_default : goal.returns-in_default
returns-in_default g c = after_get c.args.base c.requires (search rules)

pub returns-in-Long-Little : goal.returns-in-Long-Little
returns-in-Long-Little g c = after_get c.args.base c.requires (search rules)
