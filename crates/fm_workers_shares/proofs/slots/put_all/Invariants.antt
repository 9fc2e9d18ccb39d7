use Rattle.std.proofs.Common.{◌≡◌}
use Rattle.fm_workers_shares.{specs.Placing.{placed}, proofs.Popping.{TakenApart}}
use Rattle.fm_workers_shares.proofs.slots.put_all.Given as goal

abbrev pub invariant-loop-one : goal.invariant-loop-one
invariant-loop-one l = TakenApart l.fn.done.items l.done.items (λ gone. l.slots.items ≡ placed l.fn.slots.items gone)

abbrev pub decreases-loop-one : goal.decreases-loop-one
decreases-loop-one l = goal.left-loop-one l
