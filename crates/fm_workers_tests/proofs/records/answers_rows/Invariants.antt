use Rattle.std.proofs.Common.{◌≡◌, None}
use Rattle.fm_segment.specs.Access.{IsKnown}
use Rattle.fm_workers_tests.proofs.records.answers_rows.Given as goal

abbrev pub invariant-loop-row : goal.invariant-loop-row
invariant-loop-row g l = let v = g.M.Memory.view l.m in IsKnown v l.s × (v.inside ≡ None)
