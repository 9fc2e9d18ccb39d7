use Rattle.std.proofs.Common.{refl, subst, ◌∙◌, inr, ap, Ok, Err}
use Rattle.fm_base.specs.declared.refusal.Refusal.{TheVariants.{Memory}}
use Rattle.fm_workers_crew.specs.Crew.{callers}
use Rattle.fm_workers_shares.specs.{Asking.{asking}, Shares.{IsCut}}
use Rattle.fm_workers.specs.Beside.{SharesBeside}
use Rattle.fm_workers.proofs.Queried.{Places, asked, asked_beside, asked_refused, beside_asked, can_join, queried_none, queried_refused, shared_asked}
use Rattle.fm_workers.proofs.query.query_beside.Goals as goal

pub returns-in_default-clause-asks : goal.returns-in_default-clause-asks
returns-in_default-clause-asks g c =
    queried_none c.args.pass c.args.q.now c.args.s.now c.args.threads Memory tt c.requires.can.query.known (c.requires.can.open_to_all, inr tt)

pub join_all-requires : goal.join_all-requires
join_all-requires g c =
    let p = c.share_out_beside-pass in
    let acts = g.B.Beside.does c.args.beside.now p.new.beside c.args.with.now p.new.with c.args.pass.caller in
    let shared = subst (SharesBeside (asking c.of-shares.result) Places acts c.args.threads c.args.pass p.result.0 c.in-Ok.slots p.new.whole)
    (c.in-Ok-shared.is ∙ ap Ok c.in-Ok-ended.is) p.ensures.shared in
    let so = beside_asked c.args.q.now c.args.s.now c.args.threads c.of-shares.result c.count.result c.of-shares.ensures.cut c.count.ensures c.in-Ok.slots
    c.in-Ok.ensures c.args.pass p.result.0 p.new.whole (Ok tt) acts shared in
    can_join (asked c.args.q.now c.args.s.now c.args.threads) (subst IsCut c.of-shares.ensures.cut c.of-shares.ensures.whole) c.requires.can.open_to_all
    so.crew.more (callers so.crew.crew) p.new.whole so.ends.1

pub returns-in-Ok-ended-clause-asks : goal.returns-in-Ok-ended-clause-asks
returns-in-Ok-ended-clause-asks g c =
    let p = c.share_out_beside-pass in
    let acts = g.B.Beside.does c.args.beside.now p.new.beside c.args.with.now p.new.with c.args.pass.caller in
    let shared = subst (SharesBeside (asking c.of-shares.result) Places acts c.args.threads c.args.pass p.result.0 c.in-Ok.slots p.new.whole)
    (c.in-Ok-shared.is ∙ ap Ok c.in-Ok-ended.is) p.ensures.shared in
    let so = beside_asked c.args.q.now c.args.s.now c.args.threads c.of-shares.result c.count.result c.of-shares.ensures.cut c.count.ensures c.in-Ok.slots
    c.in-Ok.ensures c.args.pass p.result.0 p.new.whole (Ok tt) acts shared in
    asked_beside (asked c.args.q.now c.args.s.now c.args.threads) (subst IsCut c.of-shares.ensures.cut c.of-shares.ensures.whole) c.requires.can.open_to_all
    c.args.pass p.result.0 p.new.whole c.args.threads refl c.requires.can.query.known so c.join_all.result c.join_all.ensures.joined c.join_all.ensures.memory

pub returns-in-Err-ended-clause-asks : goal.returns-in-Err-ended-clause-asks
returns-in-Err-ended-clause-asks g c =
    let p = c.share_out_beside-pass in
    let acts = g.B.Beside.does c.args.beside.now p.new.beside c.args.with.now p.new.with c.args.pass.caller in
    let shared = subst (SharesBeside (asking c.of-shares.result) Places acts c.args.threads c.args.pass p.result.0 c.in-Ok.slots p.new.whole)
    (c.in-Ok-shared.is ∙ ap Ok c.in-Err-ended.is) p.ensures.shared in
    let so = beside_asked c.args.q.now c.args.s.now c.args.threads c.of-shares.result c.count.result c.of-shares.ensures.cut c.count.ensures c.in-Ok.slots
    c.in-Ok.ensures c.args.pass p.result.0 p.new.whole (Err c.in-Err-ended.refusal) acts shared in
    asked_refused (asked c.args.q.now c.args.s.now c.args.threads) (subst IsCut c.of-shares.ensures.cut c.of-shares.ensures.whole) c.requires.can.open_to_all
    c.args.pass p.result.0 p.new.whole c.args.threads refl c.requires.can.query.known c.in-Err-ended.refusal so

pub returns-in-Err-clause-asks : goal.returns-in-Err-clause-asks
returns-in-Err-clause-asks g c =
    let p = c.share_out_beside-pass in
    let acts = g.B.Beside.does c.args.beside.now p.new.beside c.args.with.now p.new.with c.args.pass.caller in
    let shared = subst (SharesBeside (asking c.of-shares.result) Places acts c.args.threads c.args.pass p.result.0 c.in-Ok.slots p.new.whole)
    c.in-Err.is p.ensures.shared in
    let so = shared_asked c.args.q.now c.args.s.now c.args.threads c.of-shares.result c.count.result c.of-shares.ensures.cut c.count.ensures c.in-Ok.slots
    c.in-Ok.ensures c.args.pass p.result.0 p.new.whole (Err c.in-Err.refusal) shared in
    queried_refused (asked c.args.q.now c.args.s.now c.args.threads) (subst IsCut c.of-shares.ensures.cut c.of-shares.ensures.whole)
    c.requires.can.open_to_all c.args.pass p.result.0 p.new.whole c.args.threads refl c.requires.can.query.known c.in-Err.refusal so
