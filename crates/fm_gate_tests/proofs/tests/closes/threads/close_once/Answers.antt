use Rattle.std.proofs.Common.{arith}
use Rattle.fm_gate_tests.proofs.Nothing.{nothing_on}
use Rattle.fm_gate_tests.proofs.tests.closes.threads.close_once.Goals as goal

pub returns : goal.returns
returns g c =
    let after = c.close.ensures in
    let more = after.lasts.given c.args.a in
    let given = c.requires.1 in (
      record { outside = after.outside; known = after.lasts.known c.args.a c.requires.0.known },
      omega (arith, given, more),
      nothing_on c.a_crew_stands.ensures after.did c.requires.2,
    )
