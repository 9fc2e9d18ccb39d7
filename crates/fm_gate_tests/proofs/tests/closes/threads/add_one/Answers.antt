use Rattle.fm_gate_tests.proofs.Nothing.{nothing_on}
use Rattle.fm_gate_tests.proofs.tests.closes.threads.add_one.Goals as goal

pub returns-in_err-enter-clause-nothing : goal.returns-in_err-enter-clause-nothing
returns-in_err-enter-clause-nothing c = nothing_on c.a_crew_stands.ensures c.enter.ensures.did c.requires.nothing

pub returns-clause-nothing : goal.returns-clause-nothing
returns-clause-nothing c =
    let law = c.a_crew_stands.ensures in
    nothing_on law c.leave.ensures.did (nothing_on law c.add-found.ensures.did (nothing_on law c.enter.ensures.did c.requires.nothing))
