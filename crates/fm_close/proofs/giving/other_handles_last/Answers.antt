use Rattle.fm_close.proofs.Lefts.{left}
use Rattle.fm_close.proofs.giving.other_handles_last.Goals as goal

pub returns : goal.returns
returns c = left
