use Rattle.std.proofs.Common.{ap, arith}
use Rattle.fm_words.specs.declared.shape.Shape.{Shape}
use Rattle.fm_rule_facts.specs.Steps.{part, entries, noted}
use Rattle.fm_rule.proofs.{Knowing.{opened, sees, inside_slot, shape_is}, Making.{can_read_map}, Keeping.{read_map_keeps}, Stepping.{step_stepped, map_learnt}}
use Rattle.fm_rule.proofs.paging.step_read_map.Goals as goal

pub map_place-place-requires-clause-place : goal.map_place-place-requires-clause-place
map_place-place-requires-clause-place c = (inside_slot (sees c.pass.view_is c.requires.of.1 c.pass.invariant) c.requires.inside, c.requires.low)

pub load_as-word-requires-clause-can : goal.load_as-word-requires-clause-can
load_as-word-requires-clause-can c =
    can_read_map (opened c.pass.view_is c.requires.of c.pass.invariant)
    c.requires.inside c.requires.low c.map_place-place.ensures

pub invariant_of-pass : goal.invariant_of-pass
invariant_of-pass c = read_map_keeps c.pass.invariant _ _ c.load_as-word.ensures (shape_is (sees c.pass.view_is c.requires.of.1 c.pass.invariant)) c.part_of-pass-inside.ensures.none
    c.part_of-pass-inside.ensures.some c.part_of-pass-inside.ensures.kept _ c.pass.invariant.last

pub returns-clause-stepped : goal.returns-clause-stepped
unfolding part entries noted
returns-clause-stepped c = step_stepped c.pass.view_is c.pass.invariant c.load_as-word.ensures

pub part_of-pass-inside-requires-clause-low : goal.part_of-pass-inside-requires-clause-low
part_of-pass-inside-requires-clause-low c =
    let low = c.load_as-word.ensures.tells.learns.low in
    let sh = ap (λ (x : Shape). x.pages) (shape_is (sees c.pass.view_is c.requires.of.1 c.pass.invariant)) in
    omega arith

pub returns-clause-map : goal.returns-clause-map
returns-clause-map c = map_learnt c.pass.view_is c.load_as-word.ensures.tells.learns

pub part_of-pass-inside-requires-clause-place : goal.part_of-pass-inside-requires-clause-place
part_of-pass-inside-requires-clause-place c = (inside_slot (sees c.pass.view_is c.requires.of.1 c.pass.invariant) c.requires.inside, c.requires.low)
