use Rattle.fm_rule_facts.specs.Steps.{part, entries, noted}
use Rattle.fm_rule.proofs.{Knowing.{opened}, Making.{can_check}, Keeping.{check_keeps}, Stepping.{step_stepped}}
use Rattle.fm_rule.proofs.steps.step_check.Goals as goal

pub load_as-word-requires-clause-can : goal.load_as-word-requires-clause-can
load_as-word-requires-clause-can c =
    can_check (opened c.pass.view_is c.requires.of c.pass.invariant)
    c.requires.outside c.requires.marked c.requires.known c.requires.may c.session_place-place.ensures

pub invariant_of-pass : goal.invariant_of-pass
invariant_of-pass c = check_keeps c.pass.invariant c.load_as-word.ensures c.is_alive-pass-inside.ensures

pub returns : goal.returns
unfolding part entries noted
returns c = step_stepped c.pass.view_is c.pass.invariant c.load_as-word.ensures
