use Rattle.fm_rule_facts.specs.Steps.{part, entries, noted}
use Rattle.fm_rule.proofs.{Knowing.{opened, sees, page_in_sweep}, Making.{can_wipe}, Stepping.{step_stepped}}
use Rattle.fm_rule.proofs.sweeping.step_wipe.Goals as goal

pub page_place-place-requires-clause-place : goal.page_place-place-requires-clause-place
page_place-place-requires-clause-place c = (page_in_sweep (sees c.pass.view_is c.requires.of.1 c.pass.invariant) c.requires.wiped, c.requires.word)

pub store_as-requires-clause-can : goal.store_as-requires-clause-can
store_as-requires-clause-can c =
    can_wipe (opened c.pass.view_is c.requires.of c.pass.invariant)
    c.args.id c.requires.sweep c.requires.low c.requires.wiped c.requires.word c.page_place-place.ensures

pub returns : goal.returns
unfolding part entries noted
returns c = step_stepped c.pass.view_is c.pass.invariant c.store_as.ensures
