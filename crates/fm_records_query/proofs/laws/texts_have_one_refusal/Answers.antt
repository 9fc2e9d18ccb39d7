use Rattle.fm_records_query.proofs.OneRefusal.{one_refusal}
use Rattle.fm_records_query.proofs.laws.texts_have_one_refusal.Goals as goal

pub returns : goal.returns
returns c = one_refusal
