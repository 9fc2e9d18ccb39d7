use Rattle.std.proofs.Common.{subst, arith, ◌≤◌}
use Rattle.fm_rule_facts.specs.{Views.{View}, Steps.{part, entries, noted}}
use Rattle.fm_rule.proofs.{Knowing.{opened, sees, inside_slot, page_in_hand, valid}, Making.{can_map}, Stepping.{step_stepped}}
use Rattle.fm_rule.proofs.paging.step_map.Goals as goal

pub map_place-place-requires-clause-place : goal.map_place-place-requires-clause-place
map_place-place-requires-clause-place c = (inside_slot (sees c.pass.view_is c.requires.of.1 c.pass.invariant) c.requires.inside, c.requires.low)

pub map_word-new-requires : goal.map_word-new-requires
map_word-new-requires c =
    let few = (valid (sees c.pass.view_is c.requires.of.1 c.pass.invariant)).pages.1 in
    let l = page_in_hand (sees c.pass.view_is c.requires.of.1 c.pass.invariant) c.requires.page in
    omega arith

pub exchange_as-requires-clause-can : goal.exchange_as-requires-clause-can
exchange_as-requires-clause-can c =
    can_map (opened c.pass.view_is c.requires.of c.pass.invariant)
    c.requires.inside c.requires.low c.requires.page c.map_place-place.ensures c.map_word-new.ensures.word

pub returns-clause-stepped : goal.returns-clause-stepped
unfolding part entries noted
returns-clause-stepped c = step_stepped c.pass.view_is c.pass.invariant c.exchange_as.ensures

pub returns-clause-low : goal.returns-clause-low
returns-clause-low c = subst (λ (x : View). c.exchange_as.result ≤ x.shape.pages) c.pass.view_is c.exchange_as.ensures.tells.learns
