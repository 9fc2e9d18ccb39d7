use Rattle.fm_mono.specs.Shown.{view_of}
use Rattle.fm_segment.specs.Learnt.{CanUse}
use Rattle.fm_text_tests.proofs.tests.texts.bytes_that_are_no_text_are_refused.Given as goal

abbrev pub invariant-loop-bytes : goal.invariant-loop-bytes
invariant-loop-bytes g l = CanUse (view_of l.m) l.s
