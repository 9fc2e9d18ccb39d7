-- How many arenas of a finished pool have not ended.
use Rattle.std.specs.{Prelude.{◌≡◌, ◌≢◌, ◌≤◌, List, length}, List.{AllByRecursion}}
use Rattle.fm_base.specs.{declared.arena_id.ArenaId.{ArenaId}, Arenas.{Ended, arena_of}}
use Rattle.fm_base_lists.specs.Among.{AreApart}
use Rattle.fm_rule_facts.specs.Views.{Fits}
use Rattle.fm_rule.specs.{Finishing.{FinishedView, IsFinished}, GivenBytes.{state_of}}

-- the history leaves the arena alive or closing
abbrev pub Lives : FinishedView → ArenaId → Type 0
Lives f a = (arena_of (state_of f) a).life ≢ Ended

-- Those of a pool that is finished
pub record LivingFit (f : FinishedView) : Type 0 where
  -- each has a slot and a generation of the pool's shape
  pub fits : (a : ArenaId) → Lives f a → Fits f.shape a
  -- two of one slot are one
  pub one : (a b : ArenaId) → Lives f a → Lives f b → a.slot ≡ b.slot → a ≡ b
  -- so there are no more than slots
  pub few : (ids : List ArenaId) → AllByRecursion (Lives f) ids → AreApart ids → length ids ≤ f.shape.slots

abbrev pub LivingAlwaysFit : Type 0
LivingAlwaysFit = (f : FinishedView) → IsFinished f → LivingFit f
