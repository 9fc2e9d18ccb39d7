use Rattle.std.specs.Prelude.{◌<◌}
use Rattle.fm_rule_facts.specs.{Hands.{no_number}, Views.{IsSound}}
use Rattle.fm_rule.specs.Draws.{Seeks, FoundZero}
use Rattle.fm_rule.proofs.pool.Pool.finds_none.Given as goal

abbrev pub invariant-loop-group : goal.invariant-loop-group
invariant-loop-group l =
    (s : Seeks l.self l.fn.giver l.giver no_number) × FoundZero l.group s.finds × (0 < l.group → IsSound l.giver)
