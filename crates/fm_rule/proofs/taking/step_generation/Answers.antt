use Rattle.std.proofs.Common.{refl}
use Rattle.fm_rule_facts.specs.Steps.{part, entries, noted}
use Rattle.fm_rule.proofs.{Knowing.{opened, sees, slot_in_hand}, Making.{can_learn_generation}, Stepping.{step_stepped}}
use Rattle.fm_rule.proofs.taking.step_generation.Goals as goal

pub session_place-place-requires : goal.session_place-place-requires
session_place-place-requires c = slot_in_hand (sees c.pass.view_is c.requires.of.1 c.pass.invariant) c.requires.taken refl

pub load_as-requires-clause-can : goal.load_as-requires-clause-can
load_as-requires-clause-can c = can_learn_generation (opened c.pass.view_is c.requires.of c.pass.invariant) c.requires.taken c.session_place-place.ensures

pub returns : goal.returns
unfolding part entries noted
returns c = step_stepped c.pass.view_is c.pass.invariant c.load_as.ensures
