use Rattle.std.proofs.Common.{◌+◌, ap, ◌∙◌, length, arith}
use Rattle.fm_workers_jobs.specs.{declared.{account.Account.{Account}, item.Item.TheVariants.{Job}}, Accounts.{after_push}, Turns.{account_of}}
use Rattle.fm_workers_jobs.proofs.Batches.{after_jobs-more, length-after_jobs}
use Rattle.fm_workers_jobs.proofs.jobs.Jobs.push_jobs.Goals as goal

pub push_job-requires : goal.push_job-requires
push_job-requires g c =
    let old = account_of c.args.turn.now in
    let now = c.loop-job.invariant.0 in
    let count = ap (λ (v : Account). length v.pushed + v.stops) now.is in
    let pushed = length-after_jobs old c.args.from c.loop-job.job in
    let below = c.loop-job-test.true in
    let from_on = c.loop-job.auto.job in
    let room = c.requires.room in
    let none = c.requires.unstopped in
    record {
      giver = record { is_of = now.is_of; role = ap (λ (v : Account). v.role) now.is ∙ c.requires.giver.role };
      follows = ap (λ (v : Account). v.stops) now.is ∙ c.requires.unstopped;
      room = omega arith;
    }

pub loop-job-preserved : goal.loop-job-preserved
loop-job-preserved g c =
    let old = account_of c.args.turn.now in
    let below = c.loop-job-test.true in
    let from_on = c.loop-job.auto.job in (
      record {
        is_of = c.push_job.ensures.is_of;
        is = c.push_job.ensures.is ∙ ap (λ (v : Account). after_push v (Job c.loop-job.job)) c.loop-job.invariant.0.is
            ∙ after_jobs-more old c.args.from c.loop-job.job from_on;
      },
      omega arith,
    )
