use Rattle.fm_segment.specs.Access.{IsKnown}
use Rattle.fm_visit.specs.Learnt.{IsIn}
use Rattle.fm_bench_shared.proofs.inside.ranges.compare.Given as goal

abbrev pub invariant-loop : goal.invariant-loop
invariant-loop g l = IsIn (g.M.Memory.view l.m) l.visit.arena l.first × IsKnown (g.M.Memory.view l.m) l.second
