use Rattle.std.{proofs.Common.{subst}, specs.Prelude.{Result, IfOk}}
use Rattle.fm_base.specs.declared.refusal.Refusal.{Refusal}
use Rattle.fm_rule.specs.Finishing.{FinishedView, Finishes}
use Rattle.fm_gate_tests.proofs.Finishing.{is_known}
use Rattle.fm_gate_tests.proofs.tests.gates.finishing.finished.Goals as goal

pub returns : goal.returns
returns g c =
    let done = subst (λ (r : Result FinishedView Refusal). IfOk r (λ f. Finishes c.args.pool c.args.pass f)) c.expect.ensures c.finish.ensures.finishes in
    is_known c.args.pool c.args.pass c.expect.result c.args.a c.requires.outside.of done c.requires.known
