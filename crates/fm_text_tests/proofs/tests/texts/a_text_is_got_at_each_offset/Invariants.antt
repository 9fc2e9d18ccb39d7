use Rattle.fm_mono.specs.Shown.{view_of}
use Rattle.fm_segment.specs.Learnt.{CanUse}
use Rattle.fm_text_tests.proofs.tests.texts.a_text_is_got_at_each_offset.Given as goal

abbrev pub invariant-loop-text : goal.invariant-loop-text
invariant-loop-text g l = CanUse (view_of l.m) l.s
