use Rattle.std.{proofs.Common.{◌∙◌, subst}, specs.Prelude.{Result, IfOk}}
use Rattle.fm_base.specs.declared.refusal.Refusal.{Refusal}
use Rattle.fm_rule.specs.Finishing.{FinishedView, Finishes}
use Rattle.fm_gate_tests.proofs.Finishing.{is_known}
use Rattle.fm_gate_tests.proofs.tests.closes.finishing.finished.Goals as goal

pub finish-requires : goal.finish-requires
finish-requires g c =
    let out = (c.a_crew_stands.ensures.at_look c.args.pool c.args.pass c.whole.new.pass c.whole.result c.whole.ensures).outside c.requires in
    record { of = out.of; whole = c.whole.ensures.whole ∙ c.if-not-whole.false; no_slot = out.no_slot }

pub returns : goal.returns
returns g c = λ a known.
    let stands = c.a_crew_stands.ensures.at_look c.args.pool c.args.pass c.whole.new.pass c.whole.result c.whole.ensures in
    let done = subst (λ (r : Result FinishedView Refusal). IfOk r (λ f. Finishes c.args.pool c.whole.new.pass f)) c.expect.ensures c.finish.ensures.finishes in
    is_known c.args.pool c.whole.new.pass c.expect.result a (stands.of c.requires.of) done (stands.lasts.known a known)
