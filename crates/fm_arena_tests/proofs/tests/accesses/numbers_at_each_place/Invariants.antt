use Rattle.fm_mono.specs.Shown.{view_of}
use Rattle.fm_segment_access.specs.Learnt.{CanTouch}
use Rattle.fm_arena_tests.proofs.tests.accesses.numbers_at_each_place.Given as goal

abbrev pub invariant-loop-place : goal.invariant-loop-place
invariant-loop-place g l = CanTouch (view_of l.m) l.a 0 48
