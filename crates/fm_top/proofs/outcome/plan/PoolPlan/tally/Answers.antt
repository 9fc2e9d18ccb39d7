use Rattle.std.proofs.Common.{refl}
use Rattle.fm_top.proofs.Counted.{tallied}
use Rattle.fm_top.proofs.outcome.plan.PoolPlan.tally.Goals as goal

pub returns : goal.returns
returns g c =
    tallied c.args.self.threads c.args.self.query c.args.pooled.bytes _ _ _ _ c.in_ok-counts.ensures.counts c.in_ok-text.ensures.text c.in_ok-counts.ensures.shows refl
