use Rattle.fm_rule_calls.specs.Told.{view_of_pass}
use Rattle.fm_arena.specs.Lasting.{SamePool}
use Rattle.fm_visit.specs.Learnt.{IsIn}
use Rattle.fm_visit_tests.proofs.tests.threads.wrong_words.Given as goal

abbrev pub invariant-loop-word : goal.invariant-loop-word
invariant-loop-word l = IsIn (view_of_pass l.m) l.visit.arena l.s × SamePool l.fn.m l.m
