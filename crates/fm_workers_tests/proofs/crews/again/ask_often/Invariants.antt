use Rattle.fm_rule_calls.specs.Told.{view_of_pass}
use Rattle.fm_gate.specs.Needs.{IsOutside}
use Rattle.fm_segment.specs.Access.{IsKnown}
use Rattle.fm_workers_tests.proofs.crews.again.ask_often.Given as goal

abbrev pub invariant-loop-turn : goal.invariant-loop-turn
invariant-loop-turn g l = IsOutside l.pool l.pass × IsKnown (view_of_pass l.pass) l.s

abbrev pub invariant-loop-threads : goal.invariant-loop-threads
invariant-loop-threads g l = IsOutside l.pool l.pass × IsKnown (view_of_pass l.pass) l.s
