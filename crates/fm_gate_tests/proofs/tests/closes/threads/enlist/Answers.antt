use Rattle.std.{proofs.Common.{◌≡◌, ◌∙◌, ◌≤◌, List, [], ◌∷◌, ◌++◌, ap, if◌then◌else◌, arith}, specs.Prelude.{is_ok}}
use Rattle.std.proofs.lemmas.List.Elements.{All-same, All-push}
use Rattle.fm_rule_facts.specs.Views.{View}
use Rattle.fm_gate.specs.Needs.{CanVisit}
use Rattle.fm_gate_tests.specs.Ready.{CanWork}
use Rattle.fm_gate_tests.proofs.tests.closes.threads.enlist.Goals as goal

pub returns-clause-crew : goal.returns-clause-crew
returns-clause-crew g c =
    let one = c.drawn-one.result in
    let P : View → Type 0 = λ p. CanWork c.args.pool.now p c.args.a in
    let same : c.push.new.self.items ≡ c.args.crew.now.items ++ one ∷ [] =
    ◌∙◌ {A = List View} c.push.ensures.items
    (ap (λ r. if is_ok r then c.args.crew.now.items ++ one ∷ [] else c.args.crew.now.items) c.expect.ensures) in
    let more = c.drawn-one.ensures.lasts.given c.args.a in
    let given = c.requires.ready.1 in
    let visit : CanVisit c.args.pool.now one c.args.a = record {
      outside = c.drawn-one.ensures.outside;
      known = c.drawn-one.ensures.lasts.known c.args.a c.requires.ready.0.known;
    } in
    All-same P _ _ same (All-push P _ one c.requires.crew (visit, omega arith, c.drawn-one.ensures.nothing))

pub returns-clause-ready : goal.returns-clause-ready
returns-clause-ready g c =
    let stood = c.drawn-one.ensures.giver in
    let more = stood.lasts.given c.args.a in
    let given = c.requires.ready.1 in
    (record { outside = stood.outside c.requires.ready.0.outside; known = stood.lasts.known c.args.a c.requires.ready.0.known }, omega (arith, given, more))
