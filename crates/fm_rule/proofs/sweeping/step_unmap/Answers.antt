use Rattle.fm_rule_facts.specs.Steps.{part, entries, noted}
use Rattle.fm_rule.proofs.{Knowing.{opened, sees, swept_fits}, Making.{can_unmap}, Stepping.{step_stepped}}
use Rattle.fm_rule.proofs.sweeping.step_unmap.Goals as goal

pub map_place-place-requires-clause-place : goal.map_place-place-requires-clause-place
map_place-place-requires-clause-place c = ((swept_fits (sees c.pass.view_is c.requires.of.1 c.pass.invariant) c.requires.sweep).slot, c.requires.low)

pub store_as-requires-clause-can : goal.store_as-requires-clause-can
store_as-requires-clause-can c =
    can_unmap (opened c.pass.view_is c.requires.of c.pass.invariant)
    c.args.id c.requires.sweep c.requires.low c.requires.named c.map_place-place.ensures

pub returns : goal.returns
unfolding part entries noted
returns c = step_stepped c.pass.view_is c.pass.invariant c.store_as.ensures
