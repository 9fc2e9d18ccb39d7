use Rattle.fm_segment_access.proofs.Alone.{AreBytes-slice}
use Rattle.fm_segment.proofs.Exits.{gave}
use Rattle.fm_text.proofs.Allocating.{not_allocated, not_put, allocated}
use Rattle.fm_text.proofs.allocation.allocate_text.Goals as goal

pub returns-in_err-segment : goal.returns-in_err-segment
returns-in_err-segment g c = not_allocated c.args.text.now c.in_err-segment.ensures (gave c.from_residual.ensures.1)

pub returns-in_err-set_text : goal.returns-in_err-set_text
returns-in_err-set_text g c =
    not_put c.args.text.now c.in_ok-segment.ensures c.in_err-set_text.ensures (gave c.from_residual-in_err-set_text.ensures.1)

pub returns : goal.returns
returns g c =
    allocated c.args.text.now c.in_ok-segment.ensures (AreBytes-slice c.args.text.now c.type_inv.text) c.in_ok-set_text.ensures
