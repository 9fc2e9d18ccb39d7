-- What the passes of a test have and know.
use Rattle.std.specs.Prelude.{List, All, Option, IfSome}
use Rattle.fm_base.specs.declared.arena_id.ArenaId.{ArenaId}
use Rattle.fm_rule_facts.specs.Views.{View, IsKnown}
use Rattle.fm_rule.specs.declared.pool.Pool.{Pool}
use Rattle.fm_gate.specs.Needs.{CanLeave}
use Rattle.fm_async.specs.Sets.{CanBegin}

-- it is outside, has no close, and knows the arenas
pub record Knows (pool : Pool) (p : View) (arenas : List ArenaId) : Type 0 where
  pub begin : CanBegin pool p
  pub known : All (IsKnown p) arenas

-- the pass, if it is still there, is inside an arena
abbrev pub IsReader : Pool → Option View → Type 0
IsReader pool reader = IfSome reader (λ p. CanLeave pool p)
