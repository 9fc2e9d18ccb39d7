use Rattle.std.proofs.Common.{arith}
use Rattle.fm_rule_facts.specs.Steps.{part, entries, noted}
use Rattle.fm_rule.proofs.{Knowing.{opened, sees, valid}, Making.{can_take}, Stepping.{step_stepped, slots_learnt}}
use Rattle.fm_rule.proofs.taking.step_take_slot.Goals as goal

pub without_bit-next-requires : goal.without_bit-next-requires
without_bit-next-requires c = let few = (valid (sees c.pass.view_is c.requires.of.1 c.pass.invariant)).slots.1 in let l = c.requires.low in omega arith

pub exchange_as-requires-clause-can : goal.exchange_as-requires-clause-can
exchange_as-requires-clause-can c =
    can_take (opened c.pass.view_is c.requires.of c.pass.invariant)
    c.requires.none c.requires.low c.without_bit-next.ensures c.slot_bits_place-place.ensures

pub returns-clause-stepped : goal.returns-clause-stepped
unfolding part entries noted
returns-clause-stepped c = step_stepped c.pass.view_is c.pass.invariant c.exchange_as.ensures

pub returns-clause-slots : goal.returns-clause-slots
returns-clause-slots c = slots_learnt c.pass.view_is c.exchange_as.ensures.tells.learns
