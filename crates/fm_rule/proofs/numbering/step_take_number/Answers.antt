use Rattle.fm_rule_facts.specs.Steps.{part, entries, noted}
use Rattle.fm_rule.proofs.{Knowing.{opened, group_of_low}, Making.{can_take_number}, Stepping.{step_stepped}}
use Rattle.fm_rule.proofs.numbering.step_take_number.Goals as goal

pub number_bits_place-place-requires-clause-place : goal.number_bits_place-place-requires-clause-place
number_bits_place-place-requires-clause-place c = group_of_low c.args.pool.now.shape _ _ c.requires.fits

pub exchange_as-requires-clause-can : goal.exchange_as-requires-clause-can
exchange_as-requires-clause-can c =
    can_take_number (opened c.pass.view_is c.requires.of c.pass.invariant)
    c.requires.none c.requires.few c.requires.fits c.without_bit-next.ensures c.number_bits_place-place.ensures

pub returns : goal.returns
unfolding part entries noted
returns c = step_stepped c.pass.view_is c.pass.invariant c.exchange_as.ensures
