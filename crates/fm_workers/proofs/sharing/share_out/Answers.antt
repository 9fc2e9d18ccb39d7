use Rattle.fm_workers.proofs.Batches.{can_finish_crew, shared_none, shared_out, shared_refused}
use Rattle.fm_workers.proofs.sharing.share_out.Goals as goal

pub returns-in_default-clause-shared : goal.returns-in_default-clause-shared
returns-in_default-clause-shared g c = shared_none (g.J.Job.making c.args.job.now) g.W.Whole.joins c.args.crew.now.threads c.args.pass.now c.args.whole.now

pub finish-requires : goal.finish-requires
finish-requires g c =
    can_finish_crew (g.J.Job.making c.args.job.now) c.args.crew.now.threads c.in-Ok.batch c.work_crew.new.tasks.items c.in-Ok.ensures
    c.in-Ok-work_crew.ensures.worked

pub returns-in-Ok-work_crew-clause-shared : goal.returns-in-Ok-work_crew-clause-shared
returns-in-Ok-work_crew-clause-shared g c =
    shared_out (g.J.Job.making c.args.job.now) c.args.crew.now.threads c.in-Ok.batch c.work_crew.new.tasks.items c.in-Ok.ensures g.W.Whole.joins
    c.args.whole.now c.finish.new.whole c.requires.some c.in-Ok-work_crew.ensures.worked c.finish.result c.finish.ensures

pub returns-clause-shared : goal.returns-clause-shared
returns-clause-shared g c =
    shared_refused (g.J.Job.making c.args.job.now) c.args.crew.now.threads c.in-Ok.batch c.work_crew.new.tasks.items c.in-Ok.ensures g.W.Whole.joins
    c.args.whole.now c.args.whole.now c.in-Err.refusal c.in-Err.ensures.worked
