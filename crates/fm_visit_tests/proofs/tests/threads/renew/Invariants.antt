use Rattle.fm_rule_calls.specs.Told.{view_of_pass}
use Rattle.fm_segment.specs.Learnt.{CanUse}
use Rattle.fm_arena.specs.Lasting.{SamePool}
use Rattle.fm_visit_tests.proofs.tests.threads.renew.Given as goal

abbrev pub invariant-loop : goal.invariant-loop
invariant-loop g l = CanUse (view_of_pass l.m) l.last × SamePool l.fn.m l.m
