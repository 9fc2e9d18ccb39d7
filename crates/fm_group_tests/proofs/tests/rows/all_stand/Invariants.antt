use Rattle.fm_segment.specs.Learnt.{CanUse}
use Rattle.fm_group_tests.proofs.tests.rows.all_stand.Given as goal

abbrev pub invariant-loop-word : goal.invariant-loop-word
invariant-loop-word g l = record { can : CanUse (g.M.Memory.view l.m) l.s }
