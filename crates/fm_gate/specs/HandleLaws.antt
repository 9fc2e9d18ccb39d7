-- What a handle of an automatic arena outlives.
use Rattle.std.specs.Prelude.{◌≡◌, ◌<◌, List, Result, Ok}
use Rattle.fm_base.specs.{declared.{arena_id.ArenaId.{ArenaId}, kind.Kind.{Kind}, refusal.Refusal.{Refusal}}, Calls.{Entry}}
use Rattle.fm_rule_facts.specs.{Views.{View}, Holds.{how_many}}
use Rattle.fm_rule.specs.declared.pool.Pool.{Pool}
use Rattle.fm_rule_calls.specs.Kept.{Goes}
use Rattle.fm_gate.specs.{Needs.{HasHandle}, Learnt.{AfterOpen, AfterAgain}}

-- a pass that goes on and has the handles that it had can still use each of them
abbrev pub HandleStands : Type 0
HandleStands =
    (pool : Pool) (old new : View) (own : List Entry) (id : ArenaId) → Goes old new own → new.handles ≡ old.handles
    → HasHandle pool old id → HasHandle pool new id

-- so where an arena is opened
abbrev pub StandsAtOpen : Type 0
StandsAtOpen =
    (pool : Pool) (old new : View) (kind : Kind) (result : Result ArenaId Refusal) (id : ArenaId)
    → AfterOpen pool old new kind result → HasHandle pool old id → HasHandle pool new id

-- and where another handle is taken
abbrev pub StandsAtAgain : Type 0
StandsAtAgain =
    (pool : Pool) (old new : View) (other : ArenaId) (result : Result (Unit {0}) Refusal) (id : ArenaId)
    → AfterAgain pool old new other result → HasHandle pool old id → HasHandle pool new id

-- of which the pass has two then
abbrev pub HasTwo : Type 0
HasTwo =
    (pool : Pool) (old new : View) (id : ArenaId) → AfterAgain pool old new id (Ok tt) → HasHandle pool old id
    → 1 < how_many id new.handles

pub record HandleLasts : Type 0 where
  pub stands : HandleStands
  pub at_open : StandsAtOpen
  pub at_again : StandsAtAgain
  pub two : HasTwo
