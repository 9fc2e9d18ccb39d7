use Rattle.std.proofs.Common.{subst}
use Rattle.fm_workers_crew.specs.{Beside.{WorksBeside}, Crew.{by_caller}}
use Rattle.fm_workers_shares.specs.Taking.{Takes}
use Rattle.fm_workers.proofs.Batches.{can_finish_beside, shared_beside, shared_none, shared_refused}
use Rattle.fm_workers.proofs.sharing.share_out_beside.Goals as goal

pub returns-in_default-clause-shared : goal.returns-in_default-clause-shared
returns-in_default-clause-shared g c = shared_none (g.J.Job.making c.args.job.now) g.W.Whole.joins c.args.crew.now.threads c.args.pass c.args.whole.now

pub finish-requires : goal.finish-requires
finish-requires g c =
    let w = g.J.Job.making c.args.job.now in
    let p = c.work_crew_beside-pass in
    let worked = subst (WorksBeside (by_caller (λ k old new. Takes w c.in-Ok.batch.jobs k new))
    (g.B.Beside.does c.args.beside.now p.new.beside c.args.with.now p.new.with c.args.pass.caller) c.args.pass
    p.result.0 c.in-Ok.batch.takers.items p.new.tasks.items) c.in-Ok-worked.is p.ensures.works in
    can_finish_beside w c.args.crew.now.threads c.in-Ok.batch p.new.tasks.items c.in-Ok.ensures worked

pub returns-in-Ok-worked-clause-shared : goal.returns-in-Ok-worked-clause-shared
returns-in-Ok-worked-clause-shared g c =
    let w = g.J.Job.making c.args.job.now in
    let p = c.work_crew_beside-pass in
    let worked = subst (WorksBeside (by_caller (λ k old new. Takes w c.in-Ok.batch.jobs k new))
    (g.B.Beside.does c.args.beside.now p.new.beside c.args.with.now p.new.with c.args.pass.caller) c.args.pass
    p.result.0 c.in-Ok.batch.takers.items p.new.tasks.items) c.in-Ok-worked.is p.ensures.works in
    shared_beside w c.args.crew.now.threads c.in-Ok.batch p.new.tasks.items c.in-Ok.ensures g.W.Whole.joins c.args.whole.now c.finish.new.whole
    c.requires.some worked c.finish.result c.finish.ensures

pub returns-clause-shared : goal.returns-clause-shared
returns-clause-shared g c =
    let w = g.J.Job.making c.args.job.now in
    let p = c.work_crew_beside-pass in
    shared_refused w c.args.crew.now.threads c.in-Ok.batch p.new.tasks.items c.in-Ok.ensures g.W.Whole.joins c.args.whole.now c.args.whole.now
    c.in-Err.refusal (subst (WorksBeside (by_caller (λ k old new. Takes w c.in-Ok.batch.jobs k new))
    (g.B.Beside.does c.args.beside.now p.new.beside c.args.with.now p.new.with c.args.pass.caller) c.args.pass
    p.result.0 c.in-Ok.batch.takers.items p.new.tasks.items) c.in-Err.is p.ensures.works)
