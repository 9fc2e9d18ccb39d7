use Rattle.fm_rule_facts.specs.Steps.{part, entries, noted}
use Rattle.fm_rule.proofs.{Knowing.{opened}, Making.{can_swap}, Stepping.{step_stepped}}
use Rattle.fm_rule.proofs.updates.step_swap_if.Goals as goal

pub exchange_as-requires-clause-can : goal.exchange_as-requires-clause-can
exchange_as-requires-clause-can c = can_swap (opened c.pass.view_is c.requires.of c.pass.invariant) c.requires.act c.requires.place c.ranges.new.fits

pub returns : goal.returns
unfolding part entries noted
returns c = step_stepped c.pass.view_is c.pass.invariant c.exchange_as.ensures
