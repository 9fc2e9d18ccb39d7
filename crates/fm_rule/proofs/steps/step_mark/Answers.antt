use Rattle.fm_rule_facts.specs.Steps.{part, entries, noted}
use Rattle.fm_rule.proofs.{Knowing.{opened}, Making.{can_mark}, Stepping.{step_stepped}}
use Rattle.fm_rule.proofs.steps.step_mark.Goals as goal

pub store_as-requires-clause-can : goal.store_as-requires-clause-can
store_as-requires-clause-can c =
    can_mark (opened c.pass.view_is c.requires.of c.pass.invariant)
    c.requires.outside c.pass.invariant.caller c.mark_place-place.ensures c.mark_of.ensures

pub returns : goal.returns
unfolding part entries noted
returns c = step_stepped c.pass.view_is c.pass.invariant c.store_as.ensures
