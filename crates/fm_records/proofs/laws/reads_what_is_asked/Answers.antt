use Rattle.fm_records.proofs.Covering.{asked_is_read}
use Rattle.fm_records.proofs.laws.reads_what_is_asked.Goals as goal

pub returns : goal.returns
returns c = asked_is_read
