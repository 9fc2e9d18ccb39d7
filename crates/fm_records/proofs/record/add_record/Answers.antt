-- A record's conditions are tested, and then its items are read.
use Rattle.fm_base.specs.declared.refusal.Refusal.TheVariants.{Closed}
use Rattle.fm_records.proofs.{Few.{plan_items_open}, Plans.{plan_items_readable, plan_conditions_testable}}
use Rattle.fm_records.proofs.{Recording.{record_chosen, record_passed, record_stopped}, Seeing.{sees_still}}
use Rattle.fm_records.proofs.record.add_record.Goals as goal

pub chooses-requires-clause-testable : goal.chooses-requires-clause-testable
chooses-requires-clause-testable g c = plan_conditions_testable c.conditions.ensures.conditions c.conditions.ensures.plan c.requires.lies

pub add_items-requires-clause-can : goal.add_items-requires-clause-can
add_items-requires-clause-can g c = sees_still c.requires.can c.in-Some-true.ensures

pub add_items-requires-clause-readable : goal.add_items-requires-clause-readable
add_items-requires-clause-readable g c = plan_items_readable c.items.ensures.items c.items.ensures.plan c.requires.lies

pub add_items-requires-clause-open : goal.add_items-requires-clause-open
add_items-requires-clause-open g c = plan_items_open c.args.found.now c.items.ensures.items c.items.ensures.plan c.requires.room

pub returns-in-Some-true : goal.returns-in-Some-true
returns-in-Some-true g c =
    record_chosen c.args.s.now c.args.q.now c.args.place c.conditions.ensures.conditions c.clear.ensures c.args.found.now c.add_items.new.found
    c.add_items.result c.items.ensures.items c.in-Some-true.field-0-test c.in-Some-true.ensures c.add_items.ensures

pub returns-in-Some-false : goal.returns-in-Some-false
returns-in-Some-false g c =
    record_passed c.args.s.now c.args.q.now c.args.place c.conditions.ensures.conditions c.clear.ensures c.args.found.now c.in-Some-false.field-0-test
    c.in-Some-false.ensures

pub returns-in-None : goal.returns-in-None
returns-in-None g c = record_stopped c.args.s.now c.args.q.now c.args.place c.conditions.ensures.conditions c.clear.ensures c.args.found.now Closed c.in-None.ensures
