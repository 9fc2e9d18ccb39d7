use Rattle.std.proofs.Common.{◌+◌, ◌*◌, length}
use Rattle.fm_records.{specs.{Rows.{words_of}, Words.{kept_last}}, proofs.Adding.{AreAdded}}
use Rattle.fm_records.proofs.row.+adding.Given as goal

abbrev pub decreases-add_all : goal.decreases-add_all
decreases-add_all g l = 2 * length l.dims.now + 1

abbrev pub decreases-add_rows : goal.decreases-add_rows
decreases-add_rows g l = 2 * length l.dims.now

abbrev pub invariant-add_rows-loop-i : goal.invariant-add_rows-loop-i
invariant-add_rows-loop-i g l =
    let v = g.M.Memory.view in
    AreAdded kept_last (v l.fn.m) (v l.m) l.s l.row.place l.row.at l.row.dim l.dims l.row.value.now (words_of l.fn.last) (words_of l.last) l.fn.found l.found l.i
