use Rattle.std.specs.Prelude.{◌*◌, ◌≤◌}
use Rattle.fm_rule_calls.specs.Kept.{Lasts}
use Rattle.fm_rule_facts.specs.Views.{given_of}
use Rattle.fm_gate.specs.{Crews.{HasNothing}, Needs.{IsInside}}
use Rattle.fm_bench.proofs.pools.fill.Given as goal

abbrev pub invariant-loop-word : goal.invariant-loop-word
invariant-loop-word l = IsInside l.fn.pool l.pass l.fn.a × (l.fn.words * 8 ≤ given_of l.pass l.fn.a) × HasNothing l.pass × Lasts l.fn.pass l.pass
