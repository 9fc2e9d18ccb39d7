use Rattle.fm_rule_facts.specs.Steps.{part, entries, noted}
use Rattle.fm_rule.proofs.{Knowing.{opened, sees, group_in_hand}, Making.{can_give_page}, Stepping.{step_stepped}}
use Rattle.fm_rule.proofs.paging.step_give_page.Goals as goal

pub page_bits_place-place-requires-clause-place : goal.page_bits_place-place-requires-clause-place
page_bits_place-place-requires-clause-place c = group_in_hand (sees c.pass.view_is c.requires.of.1 c.pass.invariant) c.requires.page

pub or_as-requires-clause-can : goal.or_as-requires-clause-can
or_as-requires-clause-can c =
    can_give_page (opened c.pass.view_is c.requires.of c.pass.invariant)
    c.requires.page c.page_bits_place-place.ensures c.bit-bits.ensures

pub returns : goal.returns
unfolding part entries noted
returns c = step_stepped c.pass.view_is c.pass.invariant c.or_as.ensures
