use Rattle.std.proofs.{Common.{refl}, lemmas.Result.{err_from_is_err_and}}
use Rattle.fm_c_calls.specs.Held.{no_plan, no_answer}
use Rattle.fm_c_calls.proofs.numbers.put_numbers.Goals as goal

pub returns-in_err-query : goal.returns-in_err-query
returns-in_err-query c =
    let p = err_from_is_err_and c.from_residual.result c.from_residual.ensures.1 in
    rw (p.1, p.2) (refl, no_plan c.in_err-query.ensures.refused)

pub returns-in_err-answer : goal.returns-in_err-answer
returns-in_err-answer c =
    let p = err_from_is_err_and c.from_residual-in_err-answer.result c.from_residual-in_err-answer.ensures.1 in
    rw (p.1, p.2) (refl, no_answer c.in_ok-query.query c.in_ok-query.ensures.planned c.in_err-answer.ensures.refused)
