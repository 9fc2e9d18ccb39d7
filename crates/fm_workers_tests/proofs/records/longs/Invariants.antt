use Rattle.std.proofs.Common.{◌≡◌, None}
use Rattle.fm_segment.specs.Access.{IsKnown}
use Rattle.fm_workers_tests.proofs.records.longs.Given as goal

abbrev pub invariant-loop-k : goal.invariant-loop-k
invariant-loop-k g l = let v = g.M.Memory.view l.m in IsKnown v l.s × (v.inside ≡ None)
