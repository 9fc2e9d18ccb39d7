use Rattle.std.proofs.{Common.{refl}, lemmas.Result.{err_from_is_err_and}}
use Rattle.fm_c_calls.specs.Asked.{no_plan}
use Rattle.fm_c_calls.proofs.asking.make_query.Goals as goal

pub returns-in_err-query : goal.returns-in_err-query
returns-in_err-query c =
    let p = err_from_is_err_and c.from_residual.result c.from_residual.ensures.1 in
    rw (p.1, p.2) (refl, no_plan c.in_err-query.ensures.refused)
