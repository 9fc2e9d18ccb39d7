use Rattle.std.proofs.{Common.{sym, subst}, lemmas.Result.{err_from_is_err_and}}
use Rattle.fm_rule_facts.specs.Views.{View}
use Rattle.fm_arena.{specs.Handles.{HasHandle}, proofs.Opening.{takes_again, takes_none}}
use Rattle.fm_arena.proofs.handle.AutoHandle.again.Goals as goal

pub returns : goal.returns
returns g c =
    rw (c.of-maker.ensures.same, ← c.m.view_is)
    (takes_again c.args.self.now (subst (λ (p : View). HasHandle p c.args.self.now) (sym c.m.view_is) c.requires) c.of-maker.result
    c.of-maker.ensures.maker c.in_ok-again.ensures)

pub returns-in_err-again : goal.returns-in_err-again
returns-in_err-again g c =
    let p = err_from_is_err_and c.from_residual.result c.from_residual.ensures.1 in
    rw (← c.m.view_is, p.1, p.2)
    (takes_none c.args.self.now (subst (λ (p : View). HasHandle p c.args.self.now) (sym c.m.view_is) c.requires) _ c.in_err-again.ensures)
