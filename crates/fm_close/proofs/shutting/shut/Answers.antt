use Rattle.std.proofs.Common.{◌≡◌, ◌∙◌, sym, ap, subst, arith, Some}
use Rattle.fm_base.specs.{declared.caller.Caller.{Caller}, Arenas.{MayUse}}
use Rattle.fm_close.proofs.Shuts.{shut_of, after_closed, after_held, after_fine}
use Rattle.fm_close.proofs.shutting.shut.Goals as goal

pub returns-in_default : goal.returns-in_default
returns-in_default c =
    let may = subst (λ (x : Caller). MayUse c.args.id x) c.caller-caller.ensures.caller (c.may_be_used_by.ensures.yes c.if-not-may_be_used_by.false) in
    after_closed _ c.requires (c.is_closable.ensures.yes c.if-not-is_closable.false) may c.step_shut-word.ensures (sym c.alive_holds.ensures ∙ c.in_default.is)

pub returns-then-holds-gt0 : goal.returns-then-holds-gt0
returns-then-holds-gt0 c =
    let may = subst (λ (x : Caller). MayUse c.args.id x) c.caller-caller.ensures.caller (c.may_be_used_by.ensures.yes c.if-not-may_be_used_by.false) in
    after_held _ c.requires (c.is_closable.ensures.yes c.if-not-is_closable.false) may c.step_shut-word.ensures c.in-Some.holds
    (sym c.alive_holds.ensures ∙ c.in-Some.is) c.if-holds-gt0.true

pub of-requires : goal.of-requires
of-requires c = shut_of c.args.pool.now c.step_shut-word.ensures c.requires.outside.of

pub returns : goal.returns
returns c =
    let may = subst (λ (x : Caller). MayUse c.args.id x) c.caller-caller.ensures.caller (c.may_be_used_by.ensures.yes c.if-not-may_be_used_by.false) in
    let none : c.in-Some.holds ≡ 0 = (let l = c.if-holds-gt0.false in omega arith) in
    rw c.of.ensures.same (after_fine _ c.requires (c.is_closable.ensures.yes c.if-not-is_closable.false) may c.step_shut-word.ensures c.of.result
    c.of.ensures.maker (sym c.alive_holds.ensures ∙ (c.in-Some.is ∙ ap (λ n. Some n) none)))
