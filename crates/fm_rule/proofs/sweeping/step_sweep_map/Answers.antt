use Rattle.std.proofs.Common.{subst, ◌≤◌}
use Rattle.fm_rule_facts.specs.{Views.{View}, Steps.{part, entries, noted}}
use Rattle.fm_rule.proofs.{Knowing.{opened, sees, swept_fits}, Making.{can_sweep_map}, Stepping.{step_stepped}}
use Rattle.fm_rule.proofs.sweeping.step_sweep_map.Goals as goal

pub map_place-place-requires-clause-place : goal.map_place-place-requires-clause-place
map_place-place-requires-clause-place c = ((swept_fits (sees c.pass.view_is c.requires.of.1 c.pass.invariant) c.requires.sweep).slot, c.requires.low)

pub load_as-requires-clause-can : goal.load_as-requires-clause-can
load_as-requires-clause-can c =
    can_sweep_map (opened c.pass.view_is c.requires.of c.pass.invariant)
    c.args.id c.requires.sweep c.requires.low c.requires.idle c.map_place-place.ensures

pub returns-clause-stepped : goal.returns-clause-stepped
unfolding part entries noted
returns-clause-stepped c = step_stepped c.pass.view_is c.pass.invariant c.load_as.ensures

pub returns-clause-low : goal.returns-clause-low
returns-clause-low c = subst (λ (x : View). c.load_as.result ≤ x.shape.pages) c.pass.view_is c.load_as.ensures.tells.learns
