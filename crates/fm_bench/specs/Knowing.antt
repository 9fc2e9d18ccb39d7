-- Arenas that a pass knows, and can close.
use Rattle.std.specs.Prelude.{List, All}
use Rattle.fm_base.specs.declared.arena_id.ArenaId.{ArenaId}
use Rattle.fm_rule_facts.specs.Views.{View, IsKnown}
use Rattle.fm_rule.specs.declared.pool.Pool.{Pool}
use Rattle.fm_async.specs.Sets.{CanBegin}

-- the pass is outside, has no close, and knows the arenas
pub record Knows (pool : Pool) (p : View) (arenas : List ArenaId) : Type 0 where
  pub begin : CanBegin pool p
  pub known : All (IsKnown p) arenas
