use Rattle.fm_records.specs.Learnt.{CanQuery}
use Rattle.fm_bench_shared.proofs.queries.found.Given as goal

abbrev pub invariant-loop : goal.invariant-loop
invariant-loop g l = CanQuery (g.M.Memory.view l.m) l.query l.orders
