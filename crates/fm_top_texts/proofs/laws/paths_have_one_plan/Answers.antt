use Rattle.fm_top_texts.proofs.OnePlan.{one_plan, one_refusal, refused_has_none}
use Rattle.fm_top_texts.proofs.laws.paths_have_one_plan.Goals as goal

pub returns-clause-plan : goal.returns-clause-plan
returns-clause-plan c = one_plan

pub returns-clause-refusal : goal.returns-clause-refusal
returns-clause-refusal c = one_refusal

pub returns-clause-apart : goal.returns-clause-apart
returns-clause-apart c = refused_has_none
