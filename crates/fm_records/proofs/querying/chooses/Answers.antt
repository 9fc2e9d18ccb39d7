-- The conditions are tested one by one.
use Rattle.std.proofs.Common.{false, Ok, Err, refl, ap, sym, subst}
use Rattle.fm_base.specs.declared.refusal.Refusal.TheVariants.{Closed}
use Rattle.fm_base_lists.proofs.Each.{all_at}
use Rattle.fm_records.{specs.Adds.{IsTestable}, proofs.{Testing.{none_tested, test_holds, test_ends, all_tested}, Seeing.{sees_still}}}
use Rattle.fm_records.proofs.querying.chooses.Goals as goal

pub loop-condition-init : goal.loop-condition-init
loop-condition-init g c = none_tested (g.M.Memory.view c.args.m.now) c.args.s.now c.args.place c.args.kept.now c.args.conditions.now

pub holds_at-requires-clause-can : goal.holds_at-requires-clause-can
holds_at-requires-clause-can g c = sees_still c.requires.can c.loop-condition.invariant.did

pub holds_at-requires-clause-testable : goal.holds_at-requires-clause-testable
holds_at-requires-clause-testable g c =
    subst (IsTestable c.args.s.now c.args.place) (sym c.condition-item.is)
    (all_at (IsTestable c.args.s.now c.args.place) c.loop-condition.condition-index c.args.conditions.now _ c.requires.testable c.loop-condition-test.true)

pub loop-condition-preserved : goal.loop-condition-preserved
loop-condition-preserved g c =
    test_holds c.args.conditions.now c.loop-condition.condition-index c.condition-item.result c.loop-condition.invariant c.loop-condition-test.true
    c.condition-item.is (Ok c.in-Some-true.field-0) c.in-Some-true.ensures (ap Ok c.in-Some-true.field-0-test)

pub returns-in-Some-false : goal.returns-in-Some-false
returns-in-Some-false g c =
    test_ends c.args.conditions.now c.loop-condition.condition-index c.condition-item.result c.loop-condition.invariant c.loop-condition-test.true
    c.condition-item.is (Ok c.in-Some-false.field-0) c.in-Some-false.ensures (Ok false) (ap Ok c.in-Some-false.field-0-test) (λ e. cc)

pub returns-in-None : goal.returns-in-None
returns-in-None g c =
    test_ends c.args.conditions.now c.loop-condition.condition-index c.condition-item.result c.loop-condition.invariant c.loop-condition-test.true
    c.condition-item.is (Err Closed) c.in-None.ensures (Err Closed) refl (λ e. cc)

pub returns : goal.returns
returns g c = all_tested c.args.conditions.now c.loop-condition.condition-index c.loop-condition.invariant c.loop-condition-test.false
