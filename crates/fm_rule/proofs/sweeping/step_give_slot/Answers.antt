use Rattle.std.proofs.Common.{refl, arith}
use Rattle.fm_rule_facts.specs.Steps.{part, entries, noted}
use Rattle.fm_rule.proofs.{Knowing.{opened, sees, slot_in_hand, valid}, Making.{can_give}, Stepping.{step_stepped}}
use Rattle.fm_rule.proofs.sweeping.step_give_slot.Goals as goal

pub bit-bits-requires : goal.bit-bits-requires
bit-bits-requires c =
    let few = (valid (sees c.pass.view_is c.requires.of.1 c.pass.invariant)).slots.1 in
    let l = slot_in_hand (sees c.pass.view_is c.requires.of.1 c.pass.invariant) c.requires.retired refl in
    omega arith

pub or_as-requires-clause-can : goal.or_as-requires-clause-can
or_as-requires-clause-can c =
    can_give (opened c.pass.view_is c.requires.of c.pass.invariant)
    c.requires.retired c.slot_bits_place-place.ensures c.bit-bits.ensures

pub returns : goal.returns
unfolding part entries noted
returns c = step_stepped c.pass.view_is c.pass.invariant c.or_as.ensures
