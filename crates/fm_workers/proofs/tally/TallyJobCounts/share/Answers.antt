use Rattle.std.proofs.Common.{sym, subst, Ok, IfOk}
use Rattle.fm_base.specs.View.{Did}
use Rattle.fm_records_query.specs.Plan.{Plan}
use Rattle.fm_segment.specs.Region.{Region}
use Rattle.fm_workers.{specs.{Counts.{AreSums}, Tallies.{CanCount, DoesCount}}, proofs.Talliers.{can_count_share, counted_share}}
use Rattle.fm_workers.proofs.tally.TallyJobCounts.share.Goals as goal

pub count_records-requires : goal.count_records-requires
count_records-requires g c =
    let v = g.M.Memory.view c.args.m.now in
    subst (λ (p : Plan). CanCount v p c.numbered-share.result) (sym c.query.ensures)
    (subst (λ (r : Region). CanCount v c.args.self.now.shares.plan r) (sym c.numbered-share.ensures.share)
    (can_count_share c.args.self.now.shares c.args.self.now.counts.now v c.args.number c.numbered-share.ensures.whole c.requires.outside c.requires.can))

pub returns-clause-did : goal.returns-clause-did
returns-clause-did g c =
    let v = g.M.Memory.view c.args.m.now in
    let u = g.M.Memory.view c.count_records.new.m in
    let did : Did v u (DoesCount v.caller c.query.result.now c.numbered-share.result (Ok c.in_ok-more.more)) =
    subst (λ r. Did v u (DoesCount v.caller c.query.result.now c.numbered-share.result r)) c.in_ok-more.was c.count_records.ensures.did in
    counted_share c.args.self.now.shares c.args.self.now.counts.now c.args.number c.args.part.now c.in_ok-part.field-0 c.in_ok-more.more tt
    (subst (λ (r : Region). Did v u (DoesCount v.caller c.args.self.now.shares.plan r (Ok c.in_ok-more.more))) c.numbered-share.ensures.share
    (subst (λ (p : Plan). Did v u (DoesCount v.caller p c.numbered-share.result (Ok c.in_ok-more.more))) c.query.ensures did))
    (subst (λ r. IfOk r (AreSums c.args.part.now c.in_ok-more.more)) c.in_ok-part.was c.sum.ensures.sums)
