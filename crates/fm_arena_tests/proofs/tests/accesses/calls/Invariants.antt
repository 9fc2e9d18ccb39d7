use Rattle.fm_segment_access.specs.Learnt.{CanTouch}
use Rattle.fm_arena_tests.proofs.tests.accesses.calls.Given as goal

abbrev pub invariant-loop-k : goal.invariant-loop-k
invariant-loop-k g l = CanTouch (g.M.Memory.view l.m) l.a 0 48
