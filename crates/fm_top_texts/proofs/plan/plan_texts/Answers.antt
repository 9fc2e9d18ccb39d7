use Rattle.std.proofs.{Common.{sym, ◌∙◌}, lemmas.Result.{err_from_is_err_and}}
use Rattle.fm_top_texts.{specs.Plans.{no_path, no_step, no_bytes}, proofs.Planned.{lies_within}}
use Rattle.fm_top_texts.proofs.plan.plan_texts.Goals as goal

pub returns-in_err-path-clause-refused : goal.returns-in_err-path-clause-refused
returns-in_err-path-clause-refused c =
    let p = err_from_is_err_and c.from_residual.result c.from_residual.ensures.1 in
    rw (p.1, p.2) (no_path c.in_err-path.field-0.0 c.in_err-path.ensures.refused)

pub returns-in_err-offset-clause-refused : goal.returns-in_err-offset-clause-refused
returns-in_err-offset-clause-refused c =
    let p = err_from_is_err_and c.from_residual-in_err-offset.result c.from_residual-in_err-offset.ensures.1 in
    rw (p.1, p.2) (λ _. no_step c.in_ok-path.path.items c.in_err-offset.field-0.0 c.in_ok-path.ensures.path
    (rw (← c.deref.ensures.value) c.in_err-offset.ensures.refused))

pub returns-in-Some-clause-within : goal.returns-in-Some-clause-within
returns-in-Some-clause-within c =
    lies_within _ c.args.layout.now c.in_ok-offset.end.now _ c.in_ok-offset.ensures.place (sym c.byte_count.ensures ∙ c.in-Some.is) c.size.ensures.size

pub returns-clause-refused : goal.returns-clause-refused
returns-clause-refused c = λ _.
    no_bytes c.in_ok-path.path.items c.in_ok-offset.offset c.in_ok-offset.end.now c.in_ok-path.ensures.path
    (rw (← c.deref.ensures.value) c.in_ok-offset.ensures.place) (sym c.byte_count.ensures ∙ c.in-None.is)
