use Rattle.std.proofs.Common.{subst, ◌≡◌}
use Rattle.fm_rule_facts.specs.{Views.{View}, Words.{own_word}, Steps.{part, entries, noted}}
use Rattle.fm_rule.proofs.{Knowing.{opened}, Making.{can_visit}, Stepping.{step_stepped}}
use Rattle.fm_rule.proofs.steps.step_visit.Goals as goal

pub load_as-requires-clause-can : goal.load_as-requires-clause-can
load_as-requires-clause-can c = can_visit (opened c.pass.view_is c.requires.of c.pass.invariant) c.requires.close c.requires.low c.mark_place-place.ensures

pub returns-clause-stepped : goal.returns-clause-stepped
unfolding part entries noted
returns-clause-stepped c = step_stepped c.pass.view_is c.pass.invariant c.load_as.ensures

pub returns-clause-own : goal.returns-clause-own
returns-clause-own c = subst (λ (x : View). c.args.k ≡ x.caller.number → c.load_as.result ≡ own_word x.mark) c.pass.view_is c.load_as.ensures.tells.learns
