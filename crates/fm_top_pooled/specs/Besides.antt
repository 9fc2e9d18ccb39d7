-- A second arena in the pool in which records stand.
use Rattle.std.specs.Prelude.{◌≡◌, ◌≢◌, ℕ, ◌<◌}
use Rattle.fm_base.specs.{declared.{arena_id.ArenaId.{ArenaId}, kind.Kind.TheVariants.{Shared}}, Arenas.{Alive, arena_of}}
use Rattle.fm_rule_calls.specs.Told.{view_of_pass}
use Rattle.fm_rule_facts.specs.Views.{View, IsKnown as HasArena, state_in}
use Rattle.fm_rule.specs.declared.pool.Pool.{Pool}
use Rattle.fm_segment.specs.{Access.{IsKnown}, Region.{Region, region_of}}
use Rattle.fm_top_pooled.specs.Stocked.{IsLeft, IsLone, IsZero}

-- the first pass of a pool, which knows this arena alone, and in which so many bytes are left for another one
pub record CanOpenBeside (pool : Pool) (p : View) (a : ArenaId) (size : ℕ) : Type 0 where
  pub lone : IsLone pool p
  pub only : (b : ArenaId) → HasArena p b → b ≡ a
  pub some : 0 < size
  pub left : IsLeft size p

-- all bytes, so many, of a shared arena, which is alive, and not that of the records; its words are 0
pub record IsBeside (p : View) (s t : Region) (size : ℕ) : Type 0 where
  pub all : t ≡ region_of t.arena 0 size
  pub known : IsKnown (view_of_pass p) t
  pub alive : (arena_of (state_in p) t.arena).life ≡ Alive
  pub shared : t.arena.kind ≡ Shared
  pub other : t.arena ≢ s.arena
  pub zero : IsZero p t.arena
