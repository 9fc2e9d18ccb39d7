use Rattle.fm_rule_facts.specs.Steps.{part, entries, noted}
use Rattle.fm_rule.proofs.{Knowing.{opened}, Making.{can_give_number}, Stepping.{step_stepped}}
use Rattle.fm_rule.proofs.numbering.step_give_number.Goals as goal

pub or_as-requires-clause-can : goal.or_as-requires-clause-can
or_as-requires-clause-can c =
    can_give_number (opened c.pass.view_is c.requires.of c.pass.invariant)
    c.requires.left c.requires.fits c.number_bits_place-place.ensures c.bit-one.ensures

pub returns : goal.returns
unfolding part entries noted
returns c = step_stepped c.pass.view_is c.pass.invariant c.or_as.ensures
