use Rattle.std.proofs.Common.{arith}
use Rattle.fm_gate_tests.proofs.tests.races.put_numbers.Goals as goal

pub loop-number-preserved : goal.loop-number-preserved
loop-number-preserved g c =
    let i = c.loop-number.invariant in
    let more = c.patch.ensures.lasts.given c.args.a in
    let given = i.1 in
    (c.patch.ensures.inside c.args.a i.0, omega (arith, more, given), c.patch.ensures.lasts.known c.args.a i.2)
