-- The values of a row are read and added index by index.
use Rattle.std.proofs.{Common.{◌+◌, Ok, Err, refl, w64, rules, arith}, lemmas.{Int.{to_z-of_z}, Result.{err_from_is_err_and}}}
use Rattle.fm_base.specs.declared.refusal.Refusal.TheVariants.{Closed}
use Rattle.fm_records.proofs.Adding.{added_start, added_all, value_added, value_stops}
use Rattle.fm_records.proofs.Reaching.{turn_added, turn_inside, turn_lies, turn_room, turn_still, turn_stops}
use Rattle.fm_records.proofs.row.add_row_as.Goals as goal

pub loop-i-init : goal.loop-i-init
loop-i-init g c = added_start (g.M.Memory.view c.args.m.now)

pub reach_of-requires : goal.reach_of-requires
reach_of-requires g c = turn_inside c.requires.can c.loop-i.invariant c.loop-i-test.true

pub overflow_add-place : goal.overflow_add-place
overflow_add-place g c =
    let lies = turn_lies c.requires.can c.loop-i.invariant c.loop-i-test.true c.reach_of.ensures refl in
    omega (arith, lies.within, c.requires.can.can.ends)

pub number_as-requires-clause-can : goal.number_as-requires-clause-can
number_as-requires-clause-can g c = turn_still c.requires.can c.loop-i.invariant c.loop-i-test.true

pub number_as-requires-clause-lies : goal.number_as-requires-clause-lies
number_as-requires-clause-lies g c = turn_lies c.requires.can c.loop-i.invariant c.loop-i-test.true c.reach_of.ensures refl

pub add-requires : goal.add-requires
add-requires g c = turn_room c.requires.can c.loop-i.invariant c.loop-i-test.true c.reach_of.ensures refl

pub returns-in_err-add-in-Some : goal.returns-in_err-add-in-Some
returns-in_err-add-in-Some g c =
    let p = err_from_is_err_and c.from_residual.result c.from_residual.ensures.1 in
    let e = c.in_err-add-in-Some in
    rw (p.1, p.2)
    (turn_stops c.requires.can c.loop-i.invariant c.loop-i-test.true c.reach_of.ensures refl (g.A.Adder.found c.add.new.self) e.field-0.0
    (value_added c.args.s.now c.args.row.now.value.now (c.args.row.now.place + c.reach_of.result) g.K.Keep.keeps (g.K.Keep.kept c.loop-i.kept)
    (g.K.Keep.kept c.number_as.new.kept) c.in-Some.number _ (g.A.Adder.found c.loop-i.adder) (g.A.Adder.found c.add.new.self) (Err e.field-0.0)
    (to_z-of_z w64 c.in-Some.number (search rules)) e.ensures.ok e.ensures.same e.ensures.memory c.in-Some.ensures))

pub returns-in-None : goal.returns-in-None
returns-in-None g c =
    turn_stops c.requires.can c.loop-i.invariant c.loop-i-test.true c.reach_of.ensures refl (g.A.Adder.found c.loop-i.adder) Closed
    (value_stops c.args.s.now c.args.row.now.value.now (c.args.row.now.place + c.reach_of.result) g.K.Keep.keeps (g.K.Keep.kept c.loop-i.kept)
    (g.K.Keep.kept c.number_as.new.kept) (g.A.Adder.found c.loop-i.adder) Closed c.in-None.ensures)

pub loop-i-preserved : goal.loop-i-preserved
loop-i-preserved g c =
    let e = c.in_ok-add-in-Some in
    turn_added c.requires.can c.loop-i.invariant c.loop-i-test.true c.reach_of.ensures refl (g.A.Adder.found c.add.new.self) e.field-0
    (value_added c.args.s.now c.args.row.now.value.now (c.args.row.now.place + c.reach_of.result) g.K.Keep.keeps (g.K.Keep.kept c.loop-i.kept)
    (g.K.Keep.kept c.number_as.new.kept) c.in-Some.number _ (g.A.Adder.found c.loop-i.adder) (g.A.Adder.found c.add.new.self) (Ok e.field-0)
    (to_z-of_z w64 c.in-Some.number (search rules)) e.ensures.ok e.ensures.same e.ensures.memory c.in-Some.ensures)

pub returns : goal.returns
returns g c = added_all c.loop-i.invariant (omega arith)
