use Rattle.std.proofs.Common.{arith}
use Rattle.fm_gate_tests.proofs.tests.gates.put_bits.Goals as goal

pub returns : goal.returns
returns g c =
    let more = c.patch.ensures.lasts.given c.args.a in
    let given = c.requires.can.given in
    record {
      inside = c.patch.ensures.inside c.args.a c.requires.can.inside;
      given = omega (arith, more, given);
      known = c.patch.ensures.lasts.known c.args.a c.requires.can.known;
    }
