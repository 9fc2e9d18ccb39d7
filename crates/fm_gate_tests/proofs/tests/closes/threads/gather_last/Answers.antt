use Rattle.std.{proofs.{Common.{◌≤◌, Option, subst, arith}, lemmas.List.Elements.{All-pop}}, specs.Prelude.{IfSome}}
use Rattle.fm_base.specs.declared.arena_id.ArenaId.{ArenaId}
use Rattle.fm_rule_facts.specs.{Views.{View, given_of}, Hands.{no_number}}
use Rattle.fm_rule.specs.{declared.pool.Pool.{Pool}, Draws.{Gathers}}
use Rattle.fm_gate.specs.{Crews.{CrewStands}, Needs.{CanVisit}}
use Rattle.fm_gate_tests.specs.Ready.{CanWork}
use Rattle.fm_gate_tests.proofs.tests.closes.threads.gather_last.Goals as goal

-- The pass that took the other in stands on.
stands : CrewStands → (pool : Pool) (p other q : View) (a : ArenaId) → CanVisit pool p a × (8 ≤ given_of p a)
    → CanWork pool other a → Gathers p other no_number q → CanVisit pool q a × (8 ≤ given_of q a)
stands law pool p other q a was ready gathers =
    let stood = (law.at_gather pool p other q was.0.outside.of (law.can_gather pool other ready.0.outside ready.2) gathers).stands in
    let more = stood.lasts.given a in
    let given = was.1 in
    (record { outside = stood.outside was.0.outside; known = stood.lasts.known a was.0.known }, omega (arith, given, more))

pub returns-in-Some-clause-ready : goal.returns-in-Some-clause-ready
returns-in-Some-clause-ready c =
    let P : View → Type 0 = λ p. CanWork c.args.pool.now p c.args.a in
    let ready = subst (λ (r : Option View). IfSome r P) c.in-Some.is (All-pop P _ _ c.pop.result c.pop.ensures.items c.requires.crew).1 in
    stands c.a_crew_stands.ensures c.args.pool.now _ c.in-Some.other _ c.args.a c.requires.ready ready c.gather.ensures

pub returns-in-Some-clause-crew : goal.returns-in-Some-clause-crew
returns-in-Some-clause-crew c =
    let P : View → Type 0 = λ p. CanWork c.args.pool.now p c.args.a in
    (All-pop P _ _ c.pop.result c.pop.ensures.items c.requires.crew).0
