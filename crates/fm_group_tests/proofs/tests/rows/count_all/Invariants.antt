use Rattle.fm_group.specs.Asked.{IsReady}
use Rattle.fm_group_tests.proofs.tests.rows.count_all.Given as goal

abbrev pub invariant-loop-answer : goal.invariant-loop-answer
invariant-loop-answer g l = record { ready : IsReady (g.M.Memory.view l.m) l.table }
