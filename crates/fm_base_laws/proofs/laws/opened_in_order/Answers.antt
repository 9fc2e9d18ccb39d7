use Rattle.fm_base_laws.proofs.Opened.{opened_in_order}
use Rattle.fm_base_laws.proofs.laws.opened_in_order.Goals as goal

pub returns : goal.returns
returns c = opened_in_order
