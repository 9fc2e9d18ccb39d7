use Rattle.fm_group.proofs.AllRead.{ReadTo}
use Rattle.fm_group.proofs.table.CountTable.read_places.Given as goal

abbrev pub invariant-loop-run : goal.invariant-loop-run
invariant-loop-run g l =
    let v = g.M.Memory.view in
    ReadTo (v l.fn.m) (v l.m) l.self l.run l.found.items
