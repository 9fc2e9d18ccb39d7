use Rattle.fm_gate_tests.proofs.Holds.{can_spend, spent}
use Rattle.fm_gate_tests.proofs.tests.gates.holds.spend_all.Goals as goal

pub unhold-requires : goal.unhold-requires
unhold-requires c = can_spend c.pop.new.self.items c.loop-one.invariant c.in-Some.ensures.items

pub loop-one-preserved : goal.loop-one-preserved
loop-one-preserved c = spent _ c.loop-one.invariant c.in-Some.ensures.items c.unhold.ensures
