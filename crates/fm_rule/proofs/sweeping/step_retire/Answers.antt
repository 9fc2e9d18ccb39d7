use Rattle.std.proofs.Common.{refl}
use Rattle.fm_rule_facts.specs.Steps.{part, entries, noted}
use Rattle.fm_rule.proofs.{Knowing.{opened, sees, swept_fits}, Making.{can_retire}, Stepping.{step_stepped}}
use Rattle.fm_rule.proofs.sweeping.step_retire.Goals as goal

pub session_place-place-requires : goal.session_place-place-requires
session_place-place-requires c = (swept_fits (sees c.pass.view_is c.requires.of.1 c.pass.invariant) c.requires.sweep).slot

pub retired_word-free-requires : goal.retired_word-free-requires
retired_word-free-requires c = (swept_fits (sees c.pass.view_is c.requires.of.1 c.pass.invariant) c.requires.sweep).generation

pub store_as-requires-clause-can : goal.store_as-requires-clause-can
store_as-requires-clause-can c =
    can_retire (opened c.pass.view_is c.requires.of c.pass.invariant)
    c.args.id c.requires.sweep refl c.requires.none c.requires.idle c.session_place-place.ensures c.retired_word-free.ensures

pub returns : goal.returns
unfolding part entries noted
returns c = step_stepped c.pass.view_is c.pass.invariant c.store_as.ensures
