-- A node is built after its parts, and parts from the first to the last.
use Rattle.std.{proofs.Common.{◌<◌, ◌-◌, inr, map, option_copied, sym, arith}, specs.BTreeMap.{get_by_text}}
use Rattle.serde_json.specs.View.{view}
use Rattle.fm_ljson.specs.{Built.{all_of, built}, Known.{earlier}, Views.{node_view, ref_view}}
use Rattle.fm_ljson.proofs.Building.{built_too_deep, built_none, built_aligned, built_finished, built_refused, building_done, building_pushed, building_refused, or_memory}
use Rattle.fm_ljson.proofs.Inside.{node_of-good, ref_of-named}
use Rattle.fm_ljson.proofs.Knowing.{name_at_ref, safe_at}
use Rattle.fm_ljson.proofs.build.+build.Goals as goal

pub build-returns-then-levels-eq0 : goal.build-returns-then-levels-eq0
build-returns-then-levels-eq0 t c = λ trees h. inr (sym (built_too_deep _ _ _ c.if-levels-eq0.true))

pub build-finish-requires-clause-aligned : goal.build-finish-requires-clause-aligned
build-finish-requires-clause-aligned t c =
    built_aligned (built (earlier c.args.before (get_by_text c.args.types.now) c.requires.trees) (c.args.levels - 1)) (view c.args.value.now)
    (node_view c.in-Some.node) c.in-Ok.layout
    c.in-Some.ensures (c.in-Ok.ensures c.requires.trees c.requires.known)

pub build-finish-requires-clause-named : goal.build-finish-requires-clause-named
build-finish-requires-clause-named t c = (node_of-good (view c.args.value.now) (node_view c.in-Some.node) c.in-Some.ensures).named

pub build-returns-in-Ok : goal.build-returns-in-Ok
build-returns-in-Ok t c = λ trees h.
    let some : 0 < c.args.levels = omega arith in
    built_finished _ _ _ (node_view c.in-Some.node) c.in-Ok.layout c.finish.result some c.in-Some.ensures (c.in-Ok.ensures trees h) c.finish.ensures

pub build-returns-in-Err : goal.build-returns-in-Err
build-returns-in-Err t c = λ trees h.
    let some : 0 < c.args.levels = omega arith in
    built_refused _ _ _ (node_view c.in-Some.node) c.in-Err.refusal some c.in-Some.ensures (c.in-Err.ensures trees h)

pub build-returns-in-None : goal.build-returns-in-None
build-returns-in-None t c = λ trees h.
    let some : 0 < c.args.levels = omega arith in
    or_memory c.copy_of.result _ _ (sym (built_none _ _ _ some c.in-None.ensures)) (c.copy_of.ensures trees h)

pub build_all-loop-value-preserved : goal.build_all-loop-value-preserved
build_all-loop-value-preserved t c = λ trees h.
    building_pushed (built (earlier c.args.before (get_by_text c.args.types.now) trees) c.args.levels) c.loop-value.layouts.items c.push.new.self.items
    c.in-Ok.layout _
    c.args.values.now c.loop-value.value-index
    c.value-item.result
    c.loop-value-test.true c.value-item.is (c.loop-value.invariant trees h) (c.in-Ok.ensures trees h) c.in-Ok-push.ensures.items

pub build_all-returns-clause-ok : goal.build_all-returns-clause-ok
build_all-returns-clause-ok t c = λ trees h.
    building_done (built (earlier c.args.before (get_by_text c.args.types.now) trees) c.args.levels) _ _ _ c.loop-value.value-index
    c.loop-value-test.false (c.loop-value.invariant trees h)

pub build_all-returns-in-Err-clause-err : goal.build_all-returns-in-Err-clause-err
build_all-returns-in-Err-clause-err t c = λ trees h.
    let build = built (earlier c.args.before (get_by_text c.args.types.now) trees) c.args.levels in
    building_refused build c.loop-value.layouts.items (all_of (map build (map view c.args.values.now))) c.args.values.now c.loop-value.value-index
    c.value-item.result c.in-Err.refusal c.loop-value-test.true c.value-item.is (c.loop-value.invariant trees h) (c.in-Err.ensures trees h)

pub copy_of-build-requires : goal.copy_of-build-requires
copy_of-build-requires t c =
    let safe = safe_at (get_by_text c.args.types.now) c.in-Some.reference.of.now c.in-Some-get.known.now c.requires.safe c.in-Some-get.ensures.value in
    (omega (arith, safe.before, c.if-known-before.false, c.decreases), c.requires)

pub copy_of-named-requires : goal.copy_of-named-requires
copy_of-named-requires t c =
    name_at_ref (get_by_text c.args.types.now) (ref_view c.in-Some.reference) c.in-Some-get.known.now (option_copied c.last_of.result) c.requires.safe
    c.in-Some-get.ensures.value (ref_of-named (view c.args.value.now) (ref_view c.in-Some.reference) c.in-Some.ensures) c.last_of.ensures
