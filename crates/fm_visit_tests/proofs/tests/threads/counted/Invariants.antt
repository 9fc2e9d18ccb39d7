use Rattle.fm_rule_calls.specs.Told.{view_of_pass}
use Rattle.fm_segment.specs.Learnt.{CanUse}
use Rattle.fm_memory_doubles.specs.Beside.{AreBeside}
use Rattle.fm_visit_tests.proofs.tests.threads.counted.Given as goal

abbrev pub invariant-loop : goal.invariant-loop
invariant-loop g l = CanUse (view_of_pass l.ours) l.s × AreBeside l.ours l.theirs
