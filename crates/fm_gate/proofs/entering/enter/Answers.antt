use Rattle.std.proofs.Common.{◌∙◌, sym, subst}
use Rattle.fm_base.specs.{declared.caller.Caller.{Caller}, Arenas.{MayUse}}
use Rattle.fm_rule_calls.proofs.Going.{known_on}
use Rattle.fm_gate.proofs.Enters.{mark_goes, after_alive, after_closed}
use Rattle.fm_gate.proofs.entering.enter.Goals as goal

pub step_check-word-requires-clause-known : goal.step_check-word-requires-clause-known
step_check-word-requires-clause-known c = known_on (mark_goes c.step_mark.ensures) c.args.id c.requires.known

pub returns-in-Some : goal.returns-in-Some
returns-in-Some c =
    let may = subst (λ (x : Caller). MayUse c.args.id x) c.caller.ensures.caller (c.may_be_used_by.ensures.yes c.if-not-may_be_used_by.false) in
    after_alive _ c.requires may c.step_mark.ensures c.step_check-word.ensures (sym c.alive_holds.ensures ∙ c.in-Some.is) _

pub returns-in-None : goal.returns-in-None
returns-in-None c =
    let may = subst (λ (x : Caller). MayUse c.args.id x) c.caller.ensures.caller (c.may_be_used_by.ensures.yes c.if-not-may_be_used_by.false) in
    after_closed _ c.requires may c.step_mark.ensures c.step_check-word.ensures c.step_unmark.ensures (sym c.alive_holds.ensures ∙ c.in-None.is)
