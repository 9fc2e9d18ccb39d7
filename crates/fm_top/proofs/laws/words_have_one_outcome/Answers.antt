use Rattle.fm_top.proofs.OneEnd.{one_outcome}
use Rattle.fm_top.proofs.laws.words_have_one_outcome.Goals as goal

pub returns : goal.returns
returns c = one_outcome
