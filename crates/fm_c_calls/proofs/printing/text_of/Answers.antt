use Rattle.std.proofs.{Common.{◌∙◌}, lemmas.Result.{IfOk-weaker}}
use Rattle.fm_c_calls.proofs.Outcomes.{printed_none, printed_one, printed_two}
use Rattle.fm_c_calls.proofs.printing.text_of.Goals as goal

pub returns-in-None : goal.returns-in-None
returns-in-None c =
    IfOk-weaker c.format.result _ _ (λ text e. e ∙ printed_none c.args.report.number _ c.in-None.ensures) c.format.ensures.ok

pub returns-in-One : goal.returns-in-One
returns-in-One c =
    IfOk-weaker c.format-in-One.result _ _ (λ text e. e ∙ printed_one c.args.report.number c.in-One.first _ c.in-One.ensures)
    c.format-in-One.ensures.ok

pub returns-in-Two : goal.returns-in-Two
returns-in-Two c =
    IfOk-weaker c.format-in-Two.result _ _
    (λ text e. e ∙ printed_two c.args.report.number c.in-Two.first c.in-Two.second _ c.in-Two.ensures) c.format-in-Two.ensures.ok
