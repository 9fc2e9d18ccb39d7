use Rattle.fm_segment.specs.Access.{IsKnown}
use Rattle.fm_visit.specs.Learnt.{IsIn}
use Rattle.fm_bench_shared.proofs.inside.ranges.copy.Given as goal

abbrev pub invariant-loop-turn : goal.invariant-loop-turn
invariant-loop-turn g l = IsIn (g.M.Memory.view l.m) l.visit.arena l.source × IsKnown (g.M.Memory.view l.m) l.target
