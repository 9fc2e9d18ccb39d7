use Rattle.std.proofs.Common.{refl}
use Rattle.fm_rule_facts.specs.Steps.{part, entries, noted}
use Rattle.fm_rule.proofs.{Knowing.{opened, sees, swept_fits}, Making.{can_sweep_given}, Stepping.{step_stepped}}
use Rattle.fm_rule.proofs.sweeping.step_sweep_given.Goals as goal

pub given_place-place-requires : goal.given_place-place-requires
given_place-place-requires c = (swept_fits (sees c.pass.view_is c.requires.of.1 c.pass.invariant) c.requires.sweep).slot

pub load_as-requires-clause-can : goal.load_as-requires-clause-can
load_as-requires-clause-can c =
    can_sweep_given (opened c.pass.view_is c.requires.of c.pass.invariant)
    c.args.id c.requires.sweep refl c.given_place-place.ensures

pub returns-clause-stepped : goal.returns-clause-stepped
unfolding part entries noted
returns-clause-stepped c = step_stepped c.pass.view_is c.pass.invariant c.load_as.ensures

pub returns-clause-count : goal.returns-clause-count
returns-clause-count c = c.load_as.ensures.tells.learns
