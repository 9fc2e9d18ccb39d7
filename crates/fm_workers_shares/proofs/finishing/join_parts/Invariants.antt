use Rattle.fm_workers_jobs.specs.Turns.{HasAccount, account_of}
use Rattle.fm_workers_shares.{specs.Placing.{AreJoined, absorbed, parts_of, turns_of}, proofs.Popping.{TakenApart}}
use Rattle.fm_workers_shares.proofs.finishing.join_parts.Given as goal

abbrev pub invariant-loop-taker : goal.invariant-loop-taker
invariant-loop-taker g l = TakenApart l.fn.takers.items l.takers.items (λ gone.
    HasAccount l.jobs l.giver (absorbed (account_of l.fn.giver) (turns_of gone)) × AreJoined (g.W.Whole.joins) l.fn.whole (parts_of gone) l.whole)

abbrev pub decreases-loop-taker : goal.decreases-loop-taker
decreases-loop-taker g l = goal.left-loop-taker g l
