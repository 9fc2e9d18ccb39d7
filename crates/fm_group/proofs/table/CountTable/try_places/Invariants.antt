use Rattle.std.proofs.Common.{◌≡◌}
use Rattle.fm_group.{specs.Table.{tried_at}, proofs.InTheirOrder.{PassedTo}}
use Rattle.fm_group.proofs.table.CountTable.try_places.Given as goal

abbrev pub invariant-loop : goal.invariant-loop
invariant-loop g l =
    let v = g.M.Memory.view in
    record {
      passed : PassedTo (v l.fn.m) (v l.m) l.self l.ordinal l.fn.number l.counter;
      place : l.place ≡ tried_at l.self l.fn.number l.counter;
    }
