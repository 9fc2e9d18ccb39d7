use Rattle.std.proofs.Common.{List, sym, subst}
use Rattle.fm_gate.specs.declared.held.Hold.{Hold}
use Rattle.fm_gate_tests.{specs.Holds.{AreHeld}, proofs.Holds.{taken}}
use Rattle.fm_gate_tests.proofs.tests.gates.holds.hold_more.Goals as goal

pub returns : goal.returns
returns g c =
    let kept = subst (λ (hs : List Hold). AreHeld c.args.pool.now c.args.pass.now c.args.a hs) (sym {A = List Hold} c.reserve.ensures.items) c.requires in
    let more = taken kept c.in_ok-more.ensures in
    subst (λ (hs : List Hold). AreHeld c.args.pool.now c.hold.new.pass c.args.a hs) (sym {A = List Hold} c.push_reserved.ensures.items) more
