use Rattle.fm_rule_facts.specs.Steps.{part, entries, noted}
use Rattle.fm_rule.proofs.{Knowing.{opened}, Making.{can_learn_term}, Stepping.{step_stepped}}
use Rattle.fm_rule.proofs.numbering.step_learn_term.Goals as goal

pub load_as-requires-clause-can : goal.load_as-requires-clause-can
load_as-requires-clause-can c =
    can_learn_term (opened c.pass.view_is c.requires.of c.pass.invariant)
    c.requires.taken c.requires.fits c.term_place-place.ensures

pub returns-clause-stepped : goal.returns-clause-stepped
unfolding part entries noted
returns-clause-stepped c = step_stepped c.pass.view_is c.pass.invariant c.load_as.ensures

pub returns-clause-term : goal.returns-clause-term
returns-clause-term c = c.load_as.ensures.tells.learns
