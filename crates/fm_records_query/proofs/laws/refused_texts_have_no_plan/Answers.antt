use Rattle.fm_records_query.proofs.OnePlan.{refused_has_none}
use Rattle.fm_records_query.proofs.laws.refused_texts_have_no_plan.Goals as goal

pub returns : goal.returns
returns c = refused_has_none
