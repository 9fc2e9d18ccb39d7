use Rattle.std.proofs.{Common.{sym, subst}, lemmas.Result.{err_from_is_err_and}}
use Rattle.fm_rule_facts.specs.Views.{View}
use Rattle.fm_rule.{specs.Draws.{Drawn}, proofs.Counting.{learnt_then, none_after, drawn_of}}
use Rattle.fm_rule.proofs.pool.Pool.draw.Goals as goal

pub returns-clause-drawn : goal.returns-clause-drawn
returns-clause-drawn g c =
    subst (λ (x : View). Drawn c.args.giver.now x c.split_off.result) (sym c.split_off.ensures.giver)
    (drawn_of c.args.self.now c.args.giver.now c.step_learn_term-term.new.pass c.count_draw.new.giver c.split_off.result _ _
    (learnt_then _ _ _ _ _ _ c.in_ok-number.ensures.takes c.step_learn_term-term.ensures.stepped)
    c.in_ok-count_draw.ensures.drew c.split_off.ensures.pass c.split_off.ensures.sound)

pub returns-in_err-count_draw-clause-no_pass : goal.returns-in_err-count_draw-clause-no_pass
returns-in_err-count_draw-clause-no_pass g c =
    let p = err_from_is_err_and c.from_residual-in_err-count_draw.result c.from_residual-in_err-count_draw.ensures.1 in
    let y = c.in_err-count_draw.ensures.no_pass in
    rw (p.1, p.2) (
      y.0,
      none_after c.args.self.now c.args.giver.now c.step_learn_term-term.new.pass c.count_draw.new.giver _ c.requires.of
          (learnt_then _ _ _ _ _ _ c.in_ok-number.ensures.takes c.step_learn_term-term.ensures.stepped) y.1,
    )
