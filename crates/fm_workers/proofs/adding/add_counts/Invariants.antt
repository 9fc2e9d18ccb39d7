use Rattle.std.proofs.Common.{List}
use Rattle.fm_base.specs.Calls.{Entry}
use Rattle.fm_workers.{specs.Adding.{CanAdd}, proofs.Increments.{AddedBelow}}
use Rattle.fm_workers.proofs.adding.add_counts.Given as goal

abbrev pub invariant-loop-place : goal.invariant-loop-place
invariant-loop-place g l =
    let v = g.M.Memory.view in
    record { own : List Entry; added : AddedBelow (v l.fn.m) (v l.m) l.shared l.counts l.place own; can : CanAdd (v l.m) l.shared }
