use Rattle.fm_records.proofs.Joining.{answer-append}
use Rattle.fm_records.proofs.laws.answers_join.Goals as goal

pub returns : goal.returns
returns c = answer-append
