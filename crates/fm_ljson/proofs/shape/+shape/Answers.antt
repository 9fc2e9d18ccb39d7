-- Nodes are counted from the first to the last, each with what stands below it.
use Rattle.std.proofs.Common.{◌<◌, ◌∙◌, arith, sym}
use Rattle.fm_ljson.specs.Views.{node_view}
use Rattle.fm_ljson.proofs.Counting.{one_too_many, too_deep, no_node, all_sound, one_broken, counting_item, counting_broken, counting_more, sound_ref}
use Rattle.fm_ljson.proofs.shape.+shape.Goals as goal

pub check-returns-then-number-most-clause-broken : goal.check-returns-then-number-most-clause-broken
check-returns-then-number-most-clause-broken t c = one_too_many _ _ _ _ _ (omega arith)

pub check-returns-then-levels-eq0-clause-broken : goal.check-returns-then-levels-eq0-clause-broken
check-returns-then-levels-eq0-clause-broken t c = too_deep _ _ _ _ _ c.if-levels-eq0.true

pub check-returns-in-Some-clause-sound : goal.check-returns-in-Some-clause-sound
check-returns-in-Some-clause-sound t c =
    let few : c.args.number < c.args.most = omega arith in
    let some : 0 < c.args.levels = omega arith in
    all_sound _ _ _ _ _ (node_view c.in-Some.node) _ c.check_all.result few some c.in-Some.ensures c.parts_of.ensures c.check_all.ensures.sound

pub check-returns-in-Some-clause-broken : goal.check-returns-in-Some-clause-broken
check-returns-in-Some-clause-broken t c =
    let few : c.args.number < c.args.most = omega arith in
    let some : 0 < c.args.levels = omega arith in
    one_broken _ _ _ _ _ (node_view c.in-Some.node) _ c.check_all.result few some c.in-Some.ensures c.parts_of.ensures c.check_all.ensures.broken

pub check-returns-then-is_known_ref-clause-sound : goal.check-returns-then-is_known_ref-clause-sound
check-returns-then-is_known_ref-clause-sound t c =
    let few : c.args.number < c.args.most = omega arith in
    let some : 0 < c.args.levels = omega arith in
    sound_ref _ _ _ _ _ few some c.in-None.ensures (sym c.is_known_ref.ensures ∙ c.if-is_known_ref.true)

pub check-returns-else-is_known_ref-clause-broken : goal.check-returns-else-is_known_ref-clause-broken
check-returns-else-is_known_ref-clause-broken t c = no_node _ _ _ _ _ c.in-None.ensures (sym c.is_known_ref.ensures ∙ c.if-is_known_ref.false)

pub check_all-returns-in-Err-clause-broken : goal.check_all-returns-in-Err-clause-broken
check_all-returns-in-Err-clause-broken t c =
    counting_broken _ _ _ _ _ _ _ _
    (counting_item _ _ _ _ _ _ _ c.loop-value.value-index c.value-item.result c.loop-value-test.true c.value-item.is c.loop-value.invariant)
    c.in-Err.ensures.broken

pub check_all-loop-value-preserved : goal.check_all-loop-value-preserved
check_all-loop-value-preserved t c =
    counting_more _ _ _ _ _ _ _ _
    (counting_item _ _ _ _ _ _ _ c.loop-value.value-index c.value-item.result c.loop-value-test.true c.value-item.is c.loop-value.invariant)
    c.in-Ok.ensures.sound
