use Rattle.fm_script_text.proofs.Plain.{pool_is_text}
use Rattle.fm_script_text.proofs.parse.shape_of.Goals as goal

pub returns-in_default-clause-none : goal.returns-in_default-clause-none
returns-in_default-clause-none c = λ z says. c.in_default.ensures.cases.0 (pool_is_text c.args.line.now z says)
