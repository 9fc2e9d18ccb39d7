use Rattle.fm_rule_facts.{proofs.Groups.{group_of_page}, specs.Steps.{part, entries, noted}}
use Rattle.fm_rule.proofs.{Knowing.{opened}, Making.{can_take_page}, Stepping.{step_stepped}}
use Rattle.fm_rule.proofs.paging.step_take_page.Goals as goal

pub page_bits_place-place-requires-clause-place : goal.page_bits_place-place-requires-clause-place
page_bits_place-place-requires-clause-place c = group_of_page c.args.pool.now.shape _ _ c.requires.fits

pub exchange_as-requires-clause-can : goal.exchange_as-requires-clause-can
exchange_as-requires-clause-can c =
    can_take_page (opened c.pass.view_is c.requires.of c.pass.invariant)
    c.requires.none c.requires.few c.requires.fits c.without_bit-next.ensures c.page_bits_place-place.ensures

pub returns : goal.returns
unfolding part entries noted
returns c = step_stepped c.pass.view_is c.pass.invariant c.exchange_as.ensures
