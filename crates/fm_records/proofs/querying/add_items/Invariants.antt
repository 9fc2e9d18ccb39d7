use Rattle.fm_records.proofs.Items.{AreItemsAdded}
use Rattle.fm_records.proofs.querying.add_items.Given as goal

abbrev pub invariant-loop-k : goal.invariant-loop-k
invariant-loop-k g l =
    let v = g.M.Memory.view in
    AreItemsAdded (v l.fn.m) (v l.m) l.s l.place l.fn.kept l.kept l.items l.fn.found l.found l.k
