use Rattle.fm_records.proofs.Once.{words_once}
use Rattle.fm_records.proofs.laws.reads_words_once.Goals as goal

pub returns : goal.returns
returns c = words_once
