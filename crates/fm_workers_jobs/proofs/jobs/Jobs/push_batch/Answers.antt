use Rattle.std.proofs.Common.{◌+◌, ap, ◌∙◌, length, arith}
use Rattle.fm_workers_jobs.{specs.{declared.account.Account.{Account}, Turns.{account_of}}, proofs.Batches.{length-after_jobs}}
use Rattle.fm_workers_jobs.proofs.jobs.Jobs.push_batch.Goals as goal

pub push_stops-requires : goal.push_stops-requires
push_stops-requires g c =
    let now = c.push_jobs.ensures in
    let count = ap (λ (v : Account). length v.pushed + v.stops) now.is in
    let pushed = length-after_jobs (account_of c.args.turn.now) c.args.from c.args.to in
    let none = c.requires.unstopped in
    let room = c.requires.room in
    record {
      giver = record { is_of = now.is_of; role = ap (λ (v : Account). v.role) now.is ∙ c.requires.giver.role };
      room = omega arith;
    }
