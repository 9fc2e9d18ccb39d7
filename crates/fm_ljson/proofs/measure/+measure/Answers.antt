-- A node measures what its parts do, and one more.
use Rattle.std.{proofs.Common.{◌∙◌, ◌-◌, ◌<◌, ap, subst, arith}, specs.BTreeMap.{get_by_text}}
use Rattle.serde_json.specs.View.{view}
use Rattle.fm_ljson.specs.{Measured.{IsLarge, above, all_measured, measure}, Views.{node_view}}
use Rattle.fm_ljson.proofs.Measuring.{large_above, measure_node, measure_none, measure_zero, measured_as}
use Rattle.fm_ljson.proofs.measure.+measure.Goals as goal

pub measure-returns-then-levels-eq0 : goal.measure-returns-then-levels-eq0
measure-returns-then-levels-eq0 t c = record {
  same = measure_zero _ _ _ c.if-levels-eq0.true;
  levels = omega arith;
  nodes = omega arith;
}

pub measure-returns-in-Some-measure_all : goal.measure-returns-in-Some-measure_all
measure-returns-in-Some-measure_all t c =
    let known = get_by_text c.args.known.now in
    let some : 0 < c.args.levels = omega arith in
    let parts = ap (λ ds. above (all_measured (measure known (c.args.levels - 1)) ds)) c.parts_of.ensures in
    measured_as c.within.result _ _
    (ap above c.in-Some-measure_all.ensures.same ∙ parts
    ∙ measure_node known c.args.levels (view c.args.value.now) (node_view c.in-Some.node) some c.in-Some.ensures)
    c.within.ensures

pub measure-returns-in-None-measure_all : goal.measure-returns-in-None-measure_all
measure-returns-in-None-measure_all t c =
    let known = get_by_text c.args.known.now in
    let some : 0 < c.args.levels = omega arith in
    let parts = ap (λ ds. above (all_measured (measure known (c.args.levels - 1)) ds)) c.parts_of.ensures in
    subst IsLarge (parts ∙ measure_node known c.args.levels (view c.args.value.now) (node_view c.in-Some.node) some c.in-Some.ensures)
    (large_above _ c.in-None-measure_all.ensures)

pub measure-returns-in-None : goal.measure-returns-in-None
measure-returns-in-None t c =
    let some : 0 < c.args.levels = omega arith in
    measured_as c.within-in-None.result _ _ (c.measure_ref.ensures ∙ measure_none (get_by_text c.args.known.now) c.args.levels (view c.args.value.now)
    some c.in-None.ensures) c.within-in-None.ensures
