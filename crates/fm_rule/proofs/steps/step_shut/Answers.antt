use Rattle.fm_rule_facts.specs.Steps.{part, entries, noted}
use Rattle.fm_rule.proofs.{Knowing.{opened}, Making.{can_shut}, Stepping.{step_stepped}}
use Rattle.fm_rule.proofs.steps.step_shut.Goals as goal

pub exchange_as-requires-clause-can : goal.exchange_as-requires-clause-can
exchange_as-requires-clause-can c =
    can_shut (opened c.pass.view_is c.requires.of c.pass.invariant)
    c.requires.known c.requires.may c.requires.by_hand c.session_place-place.ensures c.alive_word-alive.ensures c.closing_word-closing.ensures

pub returns : goal.returns
unfolding part entries noted
returns c = step_stepped c.pass.view_is c.pass.invariant c.exchange_as.ensures
