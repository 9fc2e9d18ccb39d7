use Rattle.fm_records.proofs.Testing.{AreTested}
use Rattle.fm_records.proofs.querying.chooses.Given as goal

abbrev pub invariant-loop-condition : goal.invariant-loop-condition
invariant-loop-condition g l =
    let v = g.M.Memory.view in
    AreTested (v l.fn.m) (v l.m) l.s l.place l.fn.kept l.kept l.conditions l.condition-index
