use Rattle.fm_rule_calls.specs.Told.{view_of_pass}
use Rattle.fm_segment.specs.Learnt.{CanUse}
use Rattle.fm_arena_tests.proofs.tests.pages.each_page_is_zeros_when_it_is_lent_again.Given as goal

abbrev pub invariant-loop-word : goal.invariant-loop-word
invariant-loop-word g l = CanUse (view_of_pass l.m) l.s
