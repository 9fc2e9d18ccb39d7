use Rattle.fm_segment_access.specs.Learnt.{CanTouch}
use Rattle.fm_arena_tests.proofs.tests.accesses.put_among_ones.Given as goal

abbrev pub invariant-loop-at : goal.invariant-loop-at
invariant-loop-at g l = CanTouch (g.M.Memory.view l.m) l.a 0 48
