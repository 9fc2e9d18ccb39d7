use Rattle.fm_rule_facts.specs.Steps.{part, entries, noted}
use Rattle.fm_rule.proofs.{Knowing.{opened}, Making.{can_draw}, Keeping.{step_keeps}, Stepping.{step_stepped, count_learnt}}
use Rattle.fm_rule.proofs.drawing.step_draw.Goals as goal

pub exchange_as-requires-clause-can : goal.exchange_as-requires-clause-can
exchange_as-requires-clause-can c =
    can_draw (opened c.pass.view_is c.requires.of c.pass.invariant)
    c.requires.can c.draw_place-place.ensures c.draw_next-next.ensures

pub returns-clause-stepped : goal.returns-clause-stepped
unfolding part entries noted
returns-clause-stepped c = step_stepped c.pass.view_is c.pass.invariant c.exchange_as.ensures

pub returns-clause-count : goal.returns-clause-count
returns-clause-count c = count_learnt c.pass.view_is c.exchange_as.ensures.tells.learns

pub invariant_of-pass : goal.invariant_of-pass
invariant_of-pass c = step_keeps c.pass.invariant c.exchange_as.ensures tt
