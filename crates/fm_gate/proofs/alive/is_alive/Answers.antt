use Rattle.std.{proofs.Common.{subst, Result}, specs.Prelude.{Err}}
use Rattle.fm_base.specs.declared.refusal.Refusal.{Refusal}
use Rattle.fm_gate.{specs.Learnt.{AfterEnter}, proofs.Aliveness.{after_closed, after_inside}}
use Rattle.fm_gate.proofs.alive.is_alive.Goals as goal

pub returns-in-Ok : goal.returns-in-Ok
returns-in-Ok c =
    after_inside c.in-Ok.field-0
    (subst (λ (r : Result (Unit {0}) Refusal). AfterEnter c.args.pool.now c.args.pass.now c.enter.new.pass c.args.id r) c.in-Ok.is c.enter.ensures)
    c.leave.ensures

pub returns-in-Err-Closed : goal.returns-in-Err-Closed
returns-in-Err-Closed c =
    after_closed
    (subst (λ (r : Refusal). AfterEnter c.args.pool.now c.args.pass.now c.enter.new.pass c.args.id (Err r)) c.in-Err-Closed.field-0-is
    (c.in-Err-Closed.ensures {u = tt}))
