use Rattle.std.proofs.Common.{refl}
use Rattle.fm_rule_facts.specs.Steps.{part, entries, noted}
use Rattle.fm_rule.proofs.{Knowing.{opened, sees, swept_fits}, Making.{can_reset}, Stepping.{step_stepped}}
use Rattle.fm_rule.proofs.sweeping.step_reset_given.Goals as goal

pub given_place-place-requires : goal.given_place-place-requires
given_place-place-requires c = (swept_fits (sees c.pass.view_is c.requires.of.1 c.pass.invariant) c.requires.sweep).slot

pub store_as-requires-clause-can : goal.store_as-requires-clause-can
store_as-requires-clause-can c =
    can_reset (opened c.pass.view_is c.requires.of c.pass.invariant)
    c.args.id c.requires.sweep refl c.requires.idle c.given_place-place.ensures

pub returns : goal.returns
unfolding part entries noted
returns c = step_stepped c.pass.view_is c.pass.invariant c.store_as.ensures
