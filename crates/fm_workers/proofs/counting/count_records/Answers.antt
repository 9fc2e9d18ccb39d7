use Rattle.std.proofs.Common.{rules, ◌≡◌, ◌≤◌, ◌+◌, ◌/◌, ℕ, sym, subst, arith, Ok, Err}
use Rattle.fm_segment.specs.Region.{Region}
use Rattle.fm_records.specs.Learnt.{CanQuery, Queried}
use Rattle.fm_workers.proofs.ByRuns.{can_query_run, counted_all, counted_more, counted_none, counting_stopped, ends_within, has_room}
use Rattle.fm_workers.proofs.counting.count_records.Goals as goal

pub loop-from-init : goal.loop-from-init
loop-from-init g c =
    let v = g.M.Memory.view c.args.m.now in
    record {
      so_far = counted_none v c.args.q.now c.args.region.now c.none-counts.result c.none-counts.ensures c.requires.query.outside;
      within = omega arith;
    }

pub query_segment-requires : goal.query_segment-requires
query_segment-requires g c =
    let to : ℕ = c.loop-from.from + c.min.result in
    let ends : to ≤ c.size.result / c.record_size.result = search rules in
    let within = ends_within c.loop-from.from c.min.result c.size.result c.record_size.result c.args.region.now.size c.args.q.now.size c.size.ensures.size
    c.record_size.ensures.size ends in
    subst (λ (r : Region). CanQuery (g.M.Memory.view c.loop-from.m) c.args.q.now r) (sym c.records_of-run.ensures)
    (can_query_run c.record_size.ensures.plan c.requires c.loop-from.invariant.so_far to (omega arith) within)

pub returns-in-Err-clause-did : goal.returns-in-Err-clause-did
returns-in-Err-clause-did g c =
    let to : ℕ = c.loop-from.from + c.min.result in
    let ends : to ≤ c.size.result / c.record_size.result = search rules in
    let within = ends_within c.loop-from.from c.min.result c.size.result c.record_size.result c.args.region.now.size c.args.q.now.size c.size.ensures.size
    c.record_size.ensures.size ends in
    let v = g.M.Memory.view in
    counting_stopped c.record_size.ensures.plan c.requires c.loop-from.invariant.so_far to (omega arith) within c.in-Err.refusal
    (subst (λ (r : Region). Queried (v c.loop-from.m) (v c.query_segment.new.m) c.args.q.now r (Err c.in-Err.refusal))
    c.records_of-run.ensures c.in-Err.ensures)

pub count_listed-requires : goal.count_listed-requires
count_listed-requires g c =
    let to : ℕ = c.loop-from.from + c.min.result in
    let ends : to ≤ c.size.result / c.record_size.result = search rules in
    let within = ends_within c.loop-from.from c.min.result c.size.result c.record_size.result c.args.region.now.size c.args.q.now.size c.size.ensures.size
    c.record_size.ensures.size ends in
    let v = g.M.Memory.view in
    has_room c.record_size.ensures.plan c.requires c.loop-from.invariant.so_far to (omega arith) within
    (subst (λ (r : Region). Queried (v c.loop-from.m) (v c.query_segment.new.m) c.args.q.now r (Ok c.in-Ok.answer))
    c.records_of-run.ensures c.in-Ok.ensures)
    c.size.ensures.ends

pub loop-from-preserved : goal.loop-from-preserved
loop-from-preserved g c =
    let to : ℕ = c.loop-from.from + c.min.result in
    let ends : to ≤ c.size.result / c.record_size.result = search rules in
    let within = ends_within c.loop-from.from c.min.result c.size.result c.record_size.result c.args.region.now.size c.args.q.now.size c.size.ensures.size
    c.record_size.ensures.size ends in
    let v = g.M.Memory.view in
    record {
      so_far = counted_more c.record_size.ensures.plan c.requires c.loop-from.invariant.so_far to (omega arith) within
          (subst (λ (r : Region). Queried (v c.loop-from.m) (v c.query_segment.new.m) c.args.q.now r (Ok c.in-Ok.answer))
          c.records_of-run.ensures c.in-Ok.ensures)
          c.count_listed.ensures;
      within = ends;
    }

pub returns-clause-did : goal.returns-clause-did
returns-clause-did g c =
    let same : c.size.result / c.record_size.result ≡ c.args.region.now.size / c.args.q.now.size =
    (λ i. c.size.ensures.size i / c.record_size.ensures.size i) in
    let below = c.loop-from.invariant.within in
    let past : c.size.result / c.record_size.result ≤ c.loop-from.from = c.loop-from-test.false in
    counted_all c.requires c.loop-from.invariant.so_far (omega (arith, same, below, past))
