use Rattle.std.proofs.Common.{ap, refl, arith, ◌≡◌}
use Rattle.fm_base.specs.declared.caller.Caller.{Caller}
use Rattle.fm_rule_facts.specs.Steps.{part, entries, noted}
use Rattle.fm_rule.proofs.{Knowing.{opened, sees, slot_in_hand, valid, number_below}, Making.{can_open}, Stepping.{step_stepped}}
use Rattle.fm_rule.proofs.steps.step_open.Goals as goal

pub session_place-place-requires : goal.session_place-place-requires
session_place-place-requires c = slot_in_hand (sees c.pass.view_is c.requires.of.1 c.pass.invariant) c.requires.hand refl

pub alive_word-requires-clause-owner : goal.alive_word-requires-clause-owner
alive_word-requires-clause-owner c =
    let n = number_below (sees c.pass.view_is c.requires.of.1 c.pass.invariant) in
    let p = (valid (sees c.pass.view_is c.requires.of.1 c.pass.invariant)).passes.1 in
    let e : c.pass.inside.caller.number ≡ c.pass.inside.seat.me.0.caller.number = ap (λ (d : Caller). d.number) c.pass.invariant.caller in
    omega arith

pub store_as-requires-clause-can : goal.store_as-requires-clause-can
store_as-requires-clause-can c =
    can_open (opened c.pass.view_is c.requires.of c.pass.invariant)
    c.requires.hand c.pass.invariant.caller c.session_place-place.ensures c.alive_word.ensures

pub returns-clause-stepped : goal.returns-clause-stepped
unfolding part entries noted
returns-clause-stepped c = step_stepped c.pass.view_is c.pass.invariant c.store_as.ensures
