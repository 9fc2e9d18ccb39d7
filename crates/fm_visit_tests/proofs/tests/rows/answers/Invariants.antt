use Rattle.fm_segment.specs.Access.{IsKnown}
use Rattle.fm_visit.specs.Learnt.{IsIn}
use Rattle.fm_visit_tests.proofs.tests.rows.answers.Given as goal

abbrev pub invariant-loop-row : goal.invariant-loop-row
invariant-loop-row g l = IsIn (g.M.Memory.view l.m) l.visit.arena l.s × IsKnown (g.M.Memory.view l.m) l.t
