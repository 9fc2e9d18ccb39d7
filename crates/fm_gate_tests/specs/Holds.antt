-- The holds of one arena that a test keeps.
use Rattle.std.specs.Prelude.{◌≡◌, ◌≢◌, ◌≤◌, length, List, All}
use Rattle.fm_base.specs.declared.{arena_id.ArenaId.{ArenaId}, kind.Kind.TheVariants.{Automatic}}
use Rattle.fm_rule_facts.specs.{Views.{View}, Holds.{how_many}}
use Rattle.fm_rule.specs.declared.pool.Pool.{Pool}
use Rattle.fm_gate.specs.{declared.held.Hold.{Hold}, Makers.{Made, made_by_pass}, Needs.{CanVisit}}

-- a hold of the arena, which isn't automatic, that this pass made
abbrev pub IsHoldOf : Made → ArenaId → Hold → Type 0
IsHoldOf m a hold = (hold.arena ≡ a) × (hold.arena.kind ≢ Automatic) × (hold.maker ≡ m)

-- the pass can visit the arena, and spend each of these holds of it
pub record AreHeld (pool : Pool) (p : View) (a : ArenaId) (holds : List Hold) : Type 0 where
  pub visit : CanVisit pool p a
  pub each : All (IsHoldOf (made_by_pass p) a) holds
  pub many : length holds ≤ how_many a p.holds
