use Rattle.std.proofs.Common.{subst, sym, ◌∙◌, Result}
use Rattle.fm_base.specs.{declared.{caller.Caller.{Caller}, refusal.Refusal.{Refusal}}, Arenas.{MayUse}}
use Rattle.fm_gate.{specs.Learnt.{AfterEnter}, proofs.{Allocations.{after_bad, after_not_his, after_no_entrance}, Visited.{after_allocate}}}
use Rattle.fm_gate.proofs.allocating.allocate.Goals as goal

pub returns-then-not-is_power_of_two : goal.returns-then-not-is_power_of_two
returns-then-not-is_power_of_two g c =
    after_bad c.requires c.caller-caller.ensures.sound (λ e. let t = c.is_power_of_two.ensures ∙ e in let f = c.if-not-is_power_of_two.true in absurd (cc))

pub returns-then-not-may_be_used_by : goal.returns-then-not-may_be_used_by
returns-then-not-may_be_used_by g c =
    after_not_his c.requires c.caller-caller.ensures.sound (sym c.is_power_of_two.ensures ∙ c.if-not-is_power_of_two.false)
    (λ m. c.may_be_used_by.ensures.no c.if-not-may_be_used_by.true (subst (λ (x : Caller). MayUse c.args.id x) (sym c.caller-caller.ensures.caller) m))

pub returns-in-Err : goal.returns-in-Err
returns-in-Err g c =
    after_no_entrance c.in-Err.refusal (sym c.is_power_of_two.ensures ∙ c.if-not-is_power_of_two.false)
    (subst (λ (r : Result (Unit {0}) Refusal). AfterEnter c.args.pool.now c.args.pass.now c.enter.new.pass c.args.id r) c.in-Err.is c.enter.ensures)

pub returns-in-Ok : goal.returns-in-Ok
returns-in-Ok g c =
    after_allocate c.give-result.result c.in-Ok.field-0 (sym c.is_power_of_two.ensures ∙ c.if-not-is_power_of_two.false)
    (subst (λ (r : Result (Unit {0}) Refusal). AfterEnter c.args.pool.now c.args.pass.now c.enter.new.pass c.args.id r) c.in-Ok.is c.enter.ensures)
    c.give-result.ensures c.leave.ensures
