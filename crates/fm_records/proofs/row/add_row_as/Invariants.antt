use Rattle.std.proofs.Common.{[]}
use Rattle.fm_records.proofs.Adding.{AreAdded}
use Rattle.fm_records.proofs.row.add_row_as.Given as goal

abbrev pub invariant-loop-i : goal.invariant-loop-i
invariant-loop-i g l =
    let v = g.M.Memory.view in
    AreAdded g.K.Keep.keeps (v l.fn.m) (v l.m) l.s l.row.place l.row.at l.row.dim [] l.row.value.now (g.K.Keep.kept l.fn.kept) (g.K.Keep.kept l.kept)
    (g.A.Adder.found l.fn.adder) (g.A.Adder.found l.adder) l.i
