use Rattle.fm_records_query.proofs.OnePlan.{one_plan}
use Rattle.fm_records_query.proofs.laws.texts_have_one_plan.Goals as goal

pub returns : goal.returns
returns c = one_plan
