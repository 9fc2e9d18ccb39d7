use Rattle.fm_script_text.proofs.{Commands.{said, unsaid}, Plain.{line_is_text}}
use Rattle.fm_script_text.proofs.parse.said.Goals as goal

pub returns-in_default-clause-none : goal.returns-in_default-clause-none
returns-in_default-clause-none c = λ who command says. c.in_default.ensures.cases.0 (line_is_text c.args.line.now who command says)

pub returns-in_default-line_of-clause-none : goal.returns-in_default-line_of-clause-none
returns-in_default-line_of-clause-none c =
    unsaid c.args.line.now c.in-Ok.text.now c.line_of.result c.line_of.ensures c.in-Ok.ensures.cases.0 c.in_default-line_of.is

pub returns-clause-says : goal.returns-clause-says
returns-clause-says c =
    said c.args.line.now c.in-Ok.text.now c.line_of.result c.in-Some.who c.in-Some.command c.line_of.ensures c.in-Ok.ensures.cases.0 c.in-Some.is
