use Rattle.std.proofs.Common.{arith}
use Rattle.fm_group_crew.proofs.Tasks.{can_count, counted_all, counted_more, counted_none, counted_stops}
use Rattle.fm_group_crew.proofs.counting.count_share.Goals as goal

pub loop-ordinal-init : goal.loop-ordinal-init
loop-ordinal-init g c = counted_none c.requires

pub count-requires : goal.count-requires
count-requires g c = can_count c.loop-ordinal.invariant c.loop-ordinal-test.true

pub returns-in-Err-clause-did : goal.returns-in-Err-clause-did
returns-in-Err-clause-did g c = counted_stops c.loop-ordinal.invariant c.loop-ordinal-test.true c.in-Err.refusal c.in-Err.ensures

pub loop-ordinal-preserved : goal.loop-ordinal-preserved
loop-ordinal-preserved g c = counted_more c.loop-ordinal.invariant c.in-Ok.field-0 c.in-Ok.ensures

pub returns-clause-did : goal.returns-clause-did
returns-clause-did g c =
    let h = c.loop-ordinal.invariant in
    let low = h.above in
    let order = c.requires.order in
    let t = c.loop-ordinal-test.false in
    let a = c.loop-ordinal.auto in
    counted_all h (omega (arith, low, order, t, a))
