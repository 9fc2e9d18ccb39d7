use Rattle.std.proofs.Common.{refl, ap, subst, ◌∙◌, Ok}
use Rattle.fm_base.specs.declared.arena_id.ArenaId.{ArenaId}
use Rattle.fm_segment_access.proofs.Touching.{visited_inside}
use Rattle.fm_segment.specs.Region.{Region}
use Rattle.fm_visit.specs.Within.{AfterWithin, DoesWithin}
use Rattle.fm_visit.proofs.work.within.Goals as goal

pub returns-clause-did : goal.returns-clause-did
returns-clause-did g c =
    let v = g.M.Memory.view in
    let Do = g.W.Work.does c.args.work.now c.act.new.self in
    let d = c.act.ensures.did in
    let made = visited_inside {Does = DoesWithin (v c.args.m.now).caller c.arena.result Do (Ok tt)} d.does.acts c.in_ok-enter.ensures.did
    (c.act.ensures.inside ∙ c.in_ok-enter.ensures.inside) d d.does.entries c.leave.ensures
    (λ may. record { may = may; acts = d.does.acts; are = d.does.are; entries = refl }) in
    subst (λ (id : ArenaId). AfterWithin (v c.args.m.now) (v c.leave.new.self) id Do (Ok tt))
    (c.arena.ensures ∙ ap (λ (r : Region). r.arena) c.segment.ensures)
    (record { did = made.did; outside = made.outside; lasts = made.lasts })
