use Rattle.fm_records.proofs.AnsweringBytes.{answer_of_bytes}
use Rattle.fm_records.proofs.laws.answers_over_bytes.Goals as goal

pub returns : goal.returns
returns c = answer_of_bytes
