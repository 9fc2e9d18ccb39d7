use Rattle.std.proofs.Common.{◌≡◌, ◌++◌, List, IfOk, IfErr}
use Rattle.fm_base.specs.declared.refusal.Refusal.TheVariants.{Memory}
use Rattle.fm_workers_shares.specs.{Joining.{joined_all}, Placing.{Slot}}
use Rattle.fm_workers_shares.proofs.joining.join_slots.Given as goal

abbrev pub invariant-loop-slot : goal.invariant-loop-slot
invariant-loop-slot l = record {
  gone : List Slot;
  split : l.fn.slots.items ≡ l.slots.items ++ gone;
  comes : IfOk l.behind (λ a. a ≡ joined_all l.q gone);
  memory : IfErr l.behind (λ r. r ≡ Memory);
}

abbrev pub decreases-loop-slot : goal.decreases-loop-slot
decreases-loop-slot l = goal.left-loop-slot l
