use Rattle.std.proofs.Common.{subst, ◌≢◌, None}
use Rattle.fm_rule_facts.specs.{Views.{View, In}, Words.{alive_holds}, Holds.{grips}, Steps.{part, entries, noted}}
use Rattle.fm_rule.proofs.{Knowing.{opened}, Making.{can_hold}, Stepping.{step_stepped}}
use Rattle.fm_rule.proofs.holding.step_hold.Goals as goal

pub exchange_as-requires-clause-can : goal.exchange_as-requires-clause-can
exchange_as-requires-clause-can c =
    can_hold (opened c.pass.view_is c.requires.of c.pass.invariant)
    c.requires.known c.requires.may c.session_place-place.ensures c.held_word-next.ensures

pub returns-clause-stepped : goal.returns-clause-stepped
unfolding part entries noted
returns-clause-stepped c = step_stepped c.pass.view_is c.pass.invariant c.exchange_as.ensures

pub returns-clause-alive : goal.returns-clause-alive
returns-clause-alive c =
    subst (λ (x : View). In c.args.id (grips c.args.id x) → alive_holds c.args.id c.exchange_as.result ≢ None) c.pass.view_is c.exchange_as.ensures.tells.learns
