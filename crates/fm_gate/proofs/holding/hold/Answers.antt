use Rattle.std.proofs.Common.{◌∙◌, sym, subst, refl}
use Rattle.fm_base.specs.{declared.caller.Caller.{Caller}, Arenas.{MayUse}}
use Rattle.fm_gate.proofs.{Outside.{of_on}, Holds.{after_closed, after_most, after_taken}}
use Rattle.fm_gate.proofs.holding.hold.Goals as goal

pub returns-in-None : goal.returns-in-None
returns-in-None g c =
    let may = subst (λ (x : Caller). MayUse c.args.id x) c.caller-caller.ensures.caller (c.may_be_used_by.ensures.yes c.if-not-may_be_used_by.false) in
    after_closed c.requires c.in_default.not-Automatic may c.take-word.ensures (sym c.alive_holds.ensures ∙ c.in-None.is)

pub returns-then-holds-eq-MOST_HOLDS : goal.returns-then-holds-eq-MOST_HOLDS
returns-then-holds-eq-MOST_HOLDS g c =
    let may = subst (λ (x : Caller). MayUse c.args.id x) c.caller-caller.ensures.caller (c.may_be_used_by.ensures.yes c.if-not-may_be_used_by.false) in
    after_most c.requires c.in_default.not-Automatic may c.take-word.ensures _ (sym c.alive_holds.ensures ∙ c.in-Some.is) c.if-holds-eq-MOST_HOLDS.true

pub of-requires : goal.of-requires
of-requires g c = of_on c.args.pool.now c.take-word.ensures.goes c.requires.outside.of

pub returns-else-holds-eq-MOST_HOLDS : goal.returns-else-holds-eq-MOST_HOLDS
returns-else-holds-eq-MOST_HOLDS g c =
    let may = subst (λ (x : Caller). MayUse c.args.id x) c.caller-caller.ensures.caller (c.may_be_used_by.ensures.yes c.if-not-may_be_used_by.false) in
    rw c.of.ensures.same (after_taken c.requires c.in_default.not-Automatic may c.take-word.ensures _
    (record { arena = c.args.id; maker = c.of.result }) (sym c.alive_holds.ensures ∙ c.in-Some.is) c.if-holds-eq-MOST_HOLDS.false refl c.of.ensures.maker)
