use Rattle.fm_segment.proofs.{Access.{at_found}, Exits.{not_placed}, Learning.{after_get_index}}
use Rattle.fm_segment.proofs.segment.Segment.get_at_index.Goals as goal

pub returns-in_err-offset : goal.returns-in_err-offset
returns-in_err-offset g c = after_get_index c.args.index c.requires (not_placed _ _ c.in_err-offset.ensures.stands.0 c.from_residual.ensures.1)

pub returns : goal.returns
returns g c = after_get_index c.args.index c.requires (at_found _ _ c.in_ok-offset.ensures.stands.0 c.get.ensures.did)
