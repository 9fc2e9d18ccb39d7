use Rattle.std.{proofs.Common.{ap, subst}, specs.Prelude.{Result, IfOk}}
use Rattle.fm_base.specs.declared.refusal.Refusal.{Refusal}
use Rattle.fm_rule_facts.specs.Views.{View}
use Rattle.fm_rule.specs.Draws.{Drawn}
use Rattle.fm_gate_tests.proofs.tests.pools.drawn.Goals as goal

pub returns-clause-giver : goal.returns-clause-giver
returns-clause-giver g c =
    let did = subst (λ (r : Result View Refusal). IfOk r (λ d. Drawn c.args.giver.now c.draw.new.giver d)) c.expect.ensures c.draw.ensures.drawn in
    (c.a_crew_stands.ensures.at_draw c.args.pool.now _ _ _ c.requires.outside.of did).giver

pub returns-clause-lasts : goal.returns-clause-lasts
returns-clause-lasts g c =
    let did = subst (λ (r : Result View Refusal). IfOk r (λ d. Drawn c.args.giver.now c.draw.new.giver d)) c.expect.ensures c.draw.ensures.drawn in
    (c.a_crew_stands.ensures.at_draw c.args.pool.now _ _ _ c.requires.outside.of did).lasts

pub returns-clause-pages : goal.returns-clause-pages
returns-clause-pages g c =
    let did = subst (λ (r : Result View Refusal). IfOk r (λ d. Drawn c.args.giver.now c.draw.new.giver d)) c.expect.ensures c.draw.ensures.drawn in
    ap (λ (x : View). x.pages) did.asked.is
