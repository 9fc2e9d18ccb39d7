use Rattle.std.specs.Prelude.{◌≡◌}
use Rattle.fm_rule_facts.specs.Hands.{no_number}
use Rattle.fm_rule.specs.Passes.{IsOf}
use Rattle.fm_rule_tests.proofs.tests.rule.the_lowest_free_number_is_drawn.Given as goal

abbrev pub invariant-loop-number : goal.invariant-loop-number
invariant-loop-number g l = IsOf l.pool l.first × (l.first.number ≡ no_number)
