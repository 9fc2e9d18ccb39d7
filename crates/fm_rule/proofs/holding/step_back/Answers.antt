use Rattle.fm_rule_facts.specs.Steps.{part, entries, noted}
use Rattle.fm_rule.proofs.{Knowing.{opened}, Making.{can_back}, Stepping.{step_stepped}}
use Rattle.fm_rule.proofs.holding.step_back.Goals as goal

pub exchange_as-requires-clause-can : goal.exchange_as-requires-clause-can
exchange_as-requires-clause-can c =
    can_back (opened c.pass.view_is c.requires.of c.pass.invariant)
    c.requires.known c.requires.handle c.requires.automatic c.session_place-place.ensures c.back_word-next.ensures

pub returns-clause-stepped : goal.returns-clause-stepped
unfolding part entries noted
returns-clause-stepped c = step_stepped c.pass.view_is c.pass.invariant c.exchange_as.ensures

pub returns-clause-alive : goal.returns-clause-alive
returns-clause-alive c = c.exchange_as.ensures.tells.learns
