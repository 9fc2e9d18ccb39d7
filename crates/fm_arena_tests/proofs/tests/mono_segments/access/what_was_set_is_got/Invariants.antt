use Rattle.fm_mono.specs.Shown.{view_of}
use Rattle.fm_segment.specs.Learnt.{CanUse}
use Rattle.fm_arena_tests.proofs.tests.mono_segments.access.what_was_set_is_got.Given as goal

abbrev pub invariant-loop-v : goal.invariant-loop-v
invariant-loop-v g l = CanUse (view_of l.m) l.s

abbrev pub invariant-loop-order : goal.invariant-loop-order
invariant-loop-order g l = CanUse (view_of l.m) l.s

abbrev pub invariant-loop-offset : goal.invariant-loop-offset
invariant-loop-offset g l = CanUse (view_of l.m) l.s
