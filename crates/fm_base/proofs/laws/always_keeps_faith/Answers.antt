use Rattle.fm_base.proofs.Faith.{keeps_faith}
use Rattle.fm_base.proofs.laws.always_keeps_faith.Goals as goal

pub returns : goal.returns
returns c = keeps_faith
