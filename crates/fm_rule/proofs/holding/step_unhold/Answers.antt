use Rattle.fm_rule_facts.specs.Steps.{part, entries, noted}
use Rattle.fm_rule.proofs.{Knowing.{opened}, Making.{can_unhold}, Stepping.{step_stepped}}
use Rattle.fm_rule.proofs.holding.step_unhold.Goals as goal

pub subtract_as-requires-clause-can : goal.subtract_as-requires-clause-can
subtract_as-requires-clause-can c =
    can_unhold (opened c.pass.view_is c.requires.of c.pass.invariant)
    c.requires.known c.requires.held c.requires.by_hand c.session_place-place.ensures

pub returns : goal.returns
unfolding part entries noted
returns c = step_stepped c.pass.view_is c.pass.invariant c.subtract_as.ensures
