use Rattle.std.specs.Prelude.{◌≡◌}
use Rattle.fm_rule_facts.specs.Hands.{no_number}
use Rattle.fm_rule.specs.Passes.{IsOf}
use Rattle.fm_rule_tests.proofs.tests.rule.a_number_comes_back_with_its_next_term.Given as goal

abbrev pub invariant-loop-term : goal.invariant-loop-term
invariant-loop-term g l = IsOf l.pool l.first × (l.first.number ≡ no_number)
