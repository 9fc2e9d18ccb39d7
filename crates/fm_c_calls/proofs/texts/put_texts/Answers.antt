use Rattle.std.proofs.{Common.{refl}, lemmas.Result.{err_from_is_err_and}}
use Rattle.fm_c_calls.specs.Texts.{no_plan, not_whole}
use Rattle.fm_c_calls.proofs.texts.put_texts.Goals as goal

pub returns-in_err-plan : goal.returns-in_err-plan
returns-in_err-plan c =
    let p = err_from_is_err_and c.from_residual.result c.from_residual.ensures.1 in
    rw (p.1, p.2) (refl, no_plan c.in_err-plan.ensures.refused)

pub returns-in-Err : goal.returns-in-Err
returns-in-Err c = (refl, not_whole c.in_ok-plan.plan c.in_ok-plan.ensures.plan c.in-Err.ensures)
