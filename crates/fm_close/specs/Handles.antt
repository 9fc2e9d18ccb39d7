-- Which handles are left after one was given back.
use Rattle.std.specs.Prelude.{◌≢◌, ◌<◌}
use Rattle.fm_base.specs.declared.arena_id.ArenaId.{ArenaId}
use Rattle.fm_rule_facts.specs.{Views.{View}, Holds.{how_many}}
use Rattle.fm_rule.specs.declared.pool.Pool.{Pool}
use Rattle.fm_gate.specs.Needs.{HasHandle}
use Rattle.fm_close.specs.{declared.gave_back.GaveBack.{GaveBack}, Learnt.{AfterGiveBack}}

-- one of the arena, where there were two
abbrev pub OneIsLeft : Type 0
OneIsLeft =
    (pool : Pool) (old new : View) (id : ArenaId) (result : GaveBack) → AfterGiveBack pool old new id result
    → 1 < how_many id old.handles → HasHandle pool old id → HasHandle pool new id

-- those of other arenas
abbrev pub OthersAreLeft : Type 0
OthersAreLeft =
    (pool : Pool) (old new : View) (id : ArenaId) (result : GaveBack) (other : ArenaId) → AfterGiveBack pool old new id result
    → other ≢ id → HasHandle pool old other → HasHandle pool new other

pub record HandlesAreLeft : Type 0 where
  pub own : OneIsLeft
  pub others : OthersAreLeft
