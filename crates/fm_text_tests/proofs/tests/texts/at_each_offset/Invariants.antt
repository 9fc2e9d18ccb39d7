use Rattle.fm_mono.specs.Shown.{view_of}
use Rattle.fm_segment.specs.Learnt.{CanUse}
use Rattle.fm_text_tests.proofs.tests.texts.at_each_offset.Given as goal

abbrev pub invariant-loop-offset : goal.invariant-loop-offset
invariant-loop-offset g l = CanUse (view_of l.m) l.s
