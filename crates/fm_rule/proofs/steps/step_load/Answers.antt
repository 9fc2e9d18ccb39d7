use Rattle.fm_rule_facts.specs.Steps.{part, entries, noted}
use Rattle.fm_rule.proofs.{Knowing.{opened}, Making.{can_load}, Stepping.{step_stepped}}
use Rattle.fm_rule.proofs.steps.step_load.Goals as goal

pub load_as-requires-clause-can : goal.load_as-requires-clause-can
load_as-requires-clause-can c = can_load (opened c.pass.view_is c.requires.of c.pass.invariant) c.requires.act c.requires.place

pub returns : goal.returns
unfolding part entries noted
returns c = step_stepped c.pass.view_is c.pass.invariant c.load_as.ensures
