use Rattle.fm_visit.specs.Learnt.{IsIn}
use Rattle.fm_visit_tests.proofs.tests.calls.refuse_another.Given as goal

abbrev pub invariant-loop-offset : goal.invariant-loop-offset
invariant-loop-offset g l = IsIn (g.M.Memory.view l.m) l.visit.arena l.s
