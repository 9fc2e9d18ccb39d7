-- Records are gone through one by one.
use Rattle.std.proofs.{Common.{◌/◌, ◌<◌, ◌∙◌, ap, subst, arith}, lemmas.Result.{err_from_is_err_and}}
use Rattle.fm_records.proofs.{Recording.{next_lies, next_room, one_on, recorded_all, recorded_more, recorded_none, recorded_stops}, Visiting.{can_still}}
use Rattle.fm_records.proofs.query.add_each.Goals as goal

pub loop-init : goal.loop-init
loop-init g c =
    (recorded_none (g.M.Memory.view c.args.m.now) c.args.s.now c.args.q.now c.args.found.now, omega (arith, c.first-place.ensures.first))

pub add_record-requires-clause-can : goal.add_record-requires-clause-can
add_record-requires-clause-can g c = can_still c.requires.can c.loop.invariant.0

pub add_record-requires-clause-lies : goal.add_record-requires-clause-lies
add_record-requires-clause-lies g c =
    let count = ap (λ n. n / c.record_size-size.result) c.size.ensures.size ∙ ap (λ n. c.args.s.now.size / n) c.record_size-size.ensures.size in
    next_lies c.loop.invariant.0 c.loop.invariant.1 (subst (λ n. c.loop.counter < n) count c.loop-test.true)

pub add_record-requires-clause-room : goal.add_record-requires-clause-room
add_record-requires-clause-room g c =
    let count = ap (λ n. n / c.record_size-size.result) c.size.ensures.size ∙ ap (λ n. c.args.s.now.size / n) c.record_size-size.ensures.size in
    next_room c.loop.invariant.0 c.loop.invariant.1 (subst (λ n. c.loop.counter < n) count c.loop-test.true) c.record_size-size.ensures.plan
    c.requires.can.ends c.requires.few

pub returns-in_err-add_record : goal.returns-in_err-add_record
returns-in_err-add_record g c =
    let count = ap (λ n. n / c.record_size-size.result) c.size.ensures.size ∙ ap (λ n. c.args.s.now.size / n) c.record_size-size.ensures.size in
    let p = err_from_is_err_and c.from_residual.result c.from_residual.ensures.1 in
    rw (p.1, p.2)
    (recorded_stops c.loop.invariant.0 c.loop.invariant.1 (subst (λ n. c.loop.counter < n) count c.loop-test.true) c.add_record.new.found
    c.in_err-add_record.field-0.0 c.in_err-add_record.ensures)

pub overflow_add-place : goal.overflow_add-place
overflow_add-place g c =
    let count = ap (λ n. n / c.record_size-size.result) c.size.ensures.size ∙ ap (λ n. c.args.s.now.size / n) c.record_size-size.ensures.size in
    let more = subst (λ n. c.loop.counter < n) count c.loop-test.true in
    omega (arith, (next_lies c.loop.invariant.0 c.loop.invariant.1 more).within, c.requires.can.ends, c.record_size-size.ensures.size)

pub loop-preserved : goal.loop-preserved
loop-preserved g c =
    let count = ap (λ n. n / c.record_size-size.result) c.size.ensures.size ∙ ap (λ n. c.args.s.now.size / n) c.record_size-size.ensures.size in
    let next = one_on c.loop.counter c.args.q.now.size in (
      recorded_more c.loop.invariant.0 c.loop.invariant.1 (subst (λ n. c.loop.counter < n) count c.loop-test.true) c.in_ok-add_record.ensures,
      omega (arith, c.loop.invariant.1, next, c.record_size-size.ensures.size),
    )

pub returns : goal.returns
returns g c =
    let count = ap (λ n. n / c.record_size-size.result) c.size.ensures.size ∙ ap (λ n. c.args.s.now.size / n) c.record_size-size.ensures.size in
    recorded_all c.loop.invariant.0 (omega arith)
