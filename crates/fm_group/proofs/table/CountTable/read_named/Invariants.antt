use Rattle.fm_group.proofs.OneRead.{NamedTo}
use Rattle.fm_group.proofs.table.CountTable.read_named.Given as goal

abbrev pub invariant-loop-place : goal.invariant-loop-place
invariant-loop-place g l =
    let v = g.M.Memory.view in
    NamedTo (v l.fn.m) (v l.m) l.self l.words l.place l.fn.found.items l.found.items
