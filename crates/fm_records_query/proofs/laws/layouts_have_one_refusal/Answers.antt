use Rattle.fm_records_query.proofs.OneRefusal.{no_record_once}
use Rattle.fm_records_query.proofs.laws.layouts_have_one_refusal.Goals as goal

pub returns : goal.returns
returns c = no_record_once
