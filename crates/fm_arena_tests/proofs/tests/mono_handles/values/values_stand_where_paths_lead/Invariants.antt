use Rattle.fm_mono.specs.Shown.{view_of}
use Rattle.fm_segment.specs.Learnt.{CanUse}
use Rattle.fm_arena_tests.proofs.tests.mono_handles.values.values_stand_where_paths_lead.Given as goal

abbrev pub invariant-loop-v : goal.invariant-loop-v
invariant-loop-v g l = CanUse (view_of l.m) l.s
