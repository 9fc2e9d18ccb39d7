use Rattle.fm_records.proofs.Few.{answers_few}
use Rattle.fm_records.proofs.laws.answers_are_few.Goals as goal

pub returns : goal.returns
returns c = answers_few
