-- Arenas that can be visited, and passes that can visit them.
use Rattle.std.specs.Prelude.{◌≡◌, ◌≤◌, ℕ, List, None, All}
use Rattle.fm_base.specs.{declared.arena_id.ArenaId.{ArenaId}, Arenas.{arena_of}}
use Rattle.fm_gate.specs.{Crews.{HasNothing}, Needs.{IsOutside}}
use Rattle.fm_mono.specs.Shown.{Arenas, IsKnown}
use Rattle.fm_rule_facts.specs.Views.{View, IsKnown as IsKnownTo, given_of}
use Rattle.fm_rule.specs.declared.pool.Pool.{Pool}
use Rattle.fm_rule_calls.specs.Kept.{Lasts}

-- nobody is inside, and the arena has these bytes
pub record IsReady (m : Arenas) (a : ArenaId) (size : ℕ) : Type 0 where
  pub outside : m.inside ≡ None
  pub known : IsKnown m a
  pub given : size ≤ (arena_of m.state a).given

-- the pass is outside, and has nothing, so that it can be gathered
pub record IsFree (pool : Pool) (p : View) : Type 0 where
  pub outside : IsOutside pool p
  pub nothing : HasNothing p

-- the pass is free, and knows what the other one knew
pub record FreeAfter (pool : Pool) (old new : View) : Type 0 where
  pub free : IsFree pool new
  pub lasts : Lasts old new

-- the pass knows the arena, which has given these bytes
pub record IsOpen (p : View) (bytes : ℕ) (a : ArenaId) : Type 0 where
  pub known : IsKnownTo p a
  pub given : bytes ≤ given_of p a

-- the pass is free, and the arenas are open so
pub record AreOpen (pool : Pool) (p : View) (arenas : List ArenaId) (bytes : ℕ) : Type 0 where
  pub free : IsFree pool p
  pub each : All (IsOpen p bytes) arenas

-- the pass is free, and the arena is open to it with these bytes
pub record CanRead (pool : Pool) (p : View) (bytes : ℕ) (a : ArenaId) : Type 0 where
  pub free : IsFree pool p
  pub opened : IsOpen p bytes a
