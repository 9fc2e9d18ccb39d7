-- A node is weighed after its parts, and parts from the first to the last.
use Rattle.std.{proofs.Common.{◌<◌, inr, map, sym, arith}}
use Rattle.serde_json.specs.View.{view}
use Rattle.fm_ljson.specs.{Built.{all_of, built}, Views.{node_view}}
use Rattle.fm_ljson.proofs.Building.{built_too_deep, built_none}
use Rattle.fm_ljson.proofs.Weighing.{building_refused, refused_node, weighed_as, weighed_node, weighing_done, weighing_pushed}
use Rattle.fm_ljson.proofs.weigh.+weigh.Goals as goal

pub weigh-returns-then-levels-eq0 : goal.weigh-returns-then-levels-eq0
weigh-returns-then-levels-eq0 t c = λ trees h. inr (built_too_deep trees _ _ c.if-levels-eq0.true)

pub weigh-returns-in-Ok : goal.weigh-returns-in-Ok
weigh-returns-in-Ok t c = λ trees h.
    let some : 0 < c.args.levels = omega arith in
    weighed_node trees c.args.levels (view c.args.value.now) (node_view c.in-Some.node) _ c.in-Ok.footprint some c.in-Some.ensures (c.in-Ok.ensures trees h)
    c.aligned.ensures

pub weigh-returns-in-Err : goal.weigh-returns-in-Err
weigh-returns-in-Err t c = λ trees h.
    let some : 0 < c.args.levels = omega arith in
    refused_node trees c.args.levels (view c.args.value.now) (node_view c.in-Some.node) c.in-Err.refusal some c.in-Some.ensures (c.in-Err.ensures trees h)

pub weigh-returns-in-None : goal.weigh-returns-in-None
weigh-returns-in-None t c = λ trees h.
    let some : 0 < c.args.levels = omega arith in
    weighed_as _ _ _ (sym (built_none trees c.args.levels (view c.args.value.now) some c.in-None.ensures)) (c.weigh_ref.ensures trees h)

pub weigh_all-loop-value-preserved : goal.weigh_all-loop-value-preserved
weigh_all-loop-value-preserved t c = λ trees h.
    let build = built trees c.args.levels in
    weighing_pushed build (all_of (map build (map view c.args.values.now))) c.args.values.now c.loop-value.value-index c.loop-value.footprints.items
    c.push.new.self.items c.in-Ok.footprint c.value-item.result c.loop-value-test.true c.value-item.is (c.loop-value.invariant trees h)
    (c.in-Ok.ensures trees h) c.in-Ok-push.ensures.items

pub weigh_all-returns-in-Err-clause-err : goal.weigh_all-returns-in-Err-clause-err
weigh_all-returns-in-Err-clause-err t c = λ trees h.
    let build = built trees c.args.levels in
    building_refused build (all_of (map build (map view c.args.values.now))) c.args.values.now c.loop-value.value-index
    (c.loop-value.invariant trees h).done c.in-Err.refusal
    c.value-item.result c.loop-value-test.true c.value-item.is (c.loop-value.invariant trees h).building (c.in-Err.ensures trees h)

pub weigh_all-returns-clause-ok : goal.weigh_all-returns-clause-ok
weigh_all-returns-clause-ok t c = λ trees h.
    let build = built trees c.args.levels in
    weighing_done build (all_of (map build (map view c.args.values.now))) c.args.values.now c.loop-value.value-index c.loop-value.footprints.items
    c.loop-value-test.false (c.loop-value.invariant trees h)
