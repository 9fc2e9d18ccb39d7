use Rattle.std.proofs.Common.{◌≡◌, ◌+◌, ◌*◌}
use Rattle.fm_records.proofs.Recording.{AreRecorded}
use Rattle.fm_records.proofs.query.add_each.Given as goal

abbrev pub invariant-loop : goal.invariant-loop
invariant-loop g l =
    let v = g.M.Memory.view in
    AreRecorded (v l.fn.m) (v l.m) l.s l.q l.counter l.fn.found l.found × (l.place ≡ l.s.first + l.counter * l.q.size)
