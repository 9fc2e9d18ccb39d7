use Rattle.std.proofs.Common.{◌≤◌}
use Rattle.fm_rule_facts.specs.Views.{IsKnown, given_of}
use Rattle.fm_gate.specs.Needs.{IsInside}
use Rattle.fm_gate_tests.proofs.tests.races.put_numbers.Given as goal

abbrev pub invariant-loop-number : goal.invariant-loop-number
invariant-loop-number g l = IsInside l.fn.pool l.pass l.fn.a × (8 ≤ given_of l.pass l.fn.a) × IsKnown l.pass l.fn.a
