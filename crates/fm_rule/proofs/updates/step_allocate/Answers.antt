use Rattle.std.proofs.Common.{◌≡◌, Some}
use Rattle.fm_base.proofs.Growing.{power_pos}
use Rattle.fm_rule_facts.specs.{Views.{View}, Steps.{part, entries, noted}}
use Rattle.fm_rule.proofs.{Knowing.{opened, sees, inner, inside_slot}, Making.{can_allocate}, Stepping.{step_stepped}}
use Rattle.fm_rule.proofs.updates.step_allocate.Goals as goal

pub given_place-place-requires : goal.given_place-place-requires
given_place-place-requires c = inside_slot (sees c.pass.view_is c.requires.of.1 c.pass.invariant) c.requires.inside

pub given_next-next-requires : goal.given_next-next-requires
given_next-next-requires c = power_pos c.args.align c.requires.power

pub exchange_as-requires-clause-can : goal.exchange_as-requires-clause-can
exchange_as-requires-clause-can c =
    can_allocate (opened c.pass.view_is c.requires.of c.pass.invariant)
    c.requires.inside c.requires.power c.requires.parts c.given_place-place.ensures c.limit.ensures c.given_next-next.ensures

pub returns-clause-stepped : goal.returns-clause-stepped
unfolding part entries noted
returns-clause-stepped c = step_stepped c.pass.view_is c.pass.invariant c.exchange_as.ensures

pub returns-clause-count : goal.returns-clause-count
returns-clause-count c =
    c.exchange_as.ensures.tells.learns c.args.id (inner (sees c.pass.view_is c.requires.of.1 c.pass.invariant) (λ (x : View). x.inside ≡ Some c.args.id) c.requires.inside)
