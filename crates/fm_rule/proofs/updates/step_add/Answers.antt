use Rattle.fm_rule_facts.specs.Steps.{part, entries, noted}
use Rattle.fm_rule.proofs.{Knowing.{opened}, Making.{can_add}, Stepping.{step_stepped}}
use Rattle.fm_rule.proofs.updates.step_add.Goals as goal

pub add_as-requires-clause-can : goal.add_as-requires-clause-can
add_as-requires-clause-can c = can_add (opened c.pass.view_is c.requires.of c.pass.invariant) c.requires.act c.requires.place

pub returns : goal.returns
unfolding part entries noted
returns c = step_stepped c.pass.view_is c.pass.invariant c.add_as.ensures
