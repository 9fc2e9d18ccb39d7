use Rattle.fm_gate.specs.Needs.{IsOutside}
use Rattle.fm_rule_calls.specs.Told.{view_of_pass}
use Rattle.fm_segment.specs.Access.{IsKnown}
use Rattle.fm_group_crew_tests.proofs.tests.pools.fill.Given as goal

abbrev pub invariant-loop-k : goal.invariant-loop-k
invariant-loop-k g l = record {
  outside : IsOutside l.pool l.pass;
  known : IsKnown (view_of_pass l.pass) l.both.records;
  places : IsKnown (view_of_pass l.pass) l.both.places;
}
