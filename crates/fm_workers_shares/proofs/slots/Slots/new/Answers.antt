use Rattle.std.proofs.Common.{rules, List, [], ◌∷◌, ◌++◌, None, ap, ◌∙◌}
use Rattle.fm_workers_shares.{specs.Placing.{Slot}, proofs.Places.{nones-more}}
use Rattle.fm_workers_shares.proofs.slots.Slots.new.Goals as goal

pub loop-preserved : goal.loop-preserved
loop-preserved c = record {
  slots = c.push_reserved.ensures.items ∙ (ap (λ (xs : List Slot). xs ++ None ∷ []) c.loop.invariant.slots ∙ nones-more c.loop.counter);
  len = search rules;
  room = search rules;
}
