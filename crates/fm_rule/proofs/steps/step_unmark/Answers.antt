use Rattle.fm_rule_facts.specs.Steps.{part, entries, noted}
use Rattle.fm_rule.proofs.{Knowing.{opened}, Making.{can_unmark}, Keeping.{unmark_keeps}, Stepping.{step_stepped}}
use Rattle.fm_rule.proofs.steps.step_unmark.Goals as goal

pub store_as-requires-clause-can : goal.store_as-requires-clause-can
store_as-requires-clause-can c = can_unmark (opened c.pass.view_is c.requires.of c.pass.invariant) c.pass.invariant.caller c.mark_place-place.ensures

pub invariant_of-pass : goal.invariant_of-pass
invariant_of-pass c = unmark_keeps c.pass.invariant c.store_as.ensures

pub returns : goal.returns
unfolding part entries noted
returns c = step_stepped c.pass.view_is c.pass.invariant c.store_as.ensures
