use Rattle.std.proofs.{Common.{◌≢◌, subst, List, ℕ}, lemmas.Result.{err_from_is_err_and, IfErr-weaker}}
use Rattle.fm_base.specs.declared.refusal.Refusal.TheVariants.{Memory}
use Rattle.fm_top_texts.specs.Plans.{IsTextUnplanned}
use Rattle.fm_c_calls.specs.Texts.{no_layout, no_text, unplanned}
use Rattle.fm_c_calls.proofs.texts.read_text_plan.Goals as goal

pub returns-in_err-layout-clause-refused : goal.returns-in_err-layout-clause-refused
returns-in_err-layout-clause-refused c =
    let p = err_from_is_err_and c.from_residual.result c.from_residual.ensures.1 in
    rw (p.1, p.2) (no_layout c.in_err-layout.ensures.refused)

pub returns-in-Err-clause-refused : goal.returns-in-Err-clause-refused
returns-in-Err-clause-refused c = no_text c.in_ok-layout.layout c.in_ok-layout.ensures.layout c.in-Err.ensures.refused

pub returns-clause-refused : goal.returns-clause-refused
returns-clause-refused c =
    let t = c.in_ok-layout.layout in
    IfErr-weaker c.plan_texts.result _ _
    (λ e denied. unplanned t c.in_ok-layout.ensures.layout
    (subst (λ (bytes : List ℕ). e ≢ Memory → IsTextUnplanned bytes t e) c.in-Ok.ensures.text denied)) c.plan_texts.ensures.refused
