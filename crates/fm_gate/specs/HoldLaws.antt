-- Which holds a pass can spend beside others that it took or spent.
use Rattle.std.specs.Prelude.{◌≡◌, ◌≢◌, ◌<◌, List, Result, IfOk}
use Rattle.fm_base.specs.{declared.{arena_id.ArenaId.{ArenaId}, refusal.Refusal.{Refusal}}, Calls.{Entry}, Finds.{Close}}
use Rattle.fm_rule_facts.specs.{Views.{View}, Holds.{how_many}}
use Rattle.fm_rule.specs.declared.pool.Pool.{Pool}
use Rattle.fm_rule_calls.specs.Kept.{Goes, rest_of}
use Rattle.fm_gate.specs.{declared.held.Hold.{Hold}, Needs.{CanUnhold}, Learnt.{AfterHold, AfterUnhold}}

-- two holds of one arena
pub record HasBoth (pool : Pool) (p : View) (a b : Hold) : Type 0 where
  pub first : CanUnhold pool p a
  pub second : CanUnhold pool p b
  pub same : b.arena ≡ a.arena
  pub two : 1 < how_many a.arena p.holds

-- a hold stands where another is taken or refused
abbrev pub StandsAtHold : Type 0
StandsAtHold =
    (pool : Pool) (old new : View) (other : ArenaId) (result : Result Hold Refusal) (hold : Hold)
    → AfterHold pool old new other result → CanUnhold pool old hold → CanUnhold pool new hold

-- a second hold of its arena stands beside it
abbrev pub BothAtHold : Type 0
BothAtHold =
    (pool : Pool) (old new : View) (result : Result Hold Refusal) (first : Hold)
    → AfterHold pool old new first.arena result → CanUnhold pool old first
    → IfOk result (λ second. HasBoth pool new first second)

-- both stand where the pass goes on and has what it had, but for its closes
abbrev pub BothStand : Type 0
BothStand =
    (pool : Pool) (old new : View) (own : List Entry) (closes : List Close) (first second : Hold) → Goes old new own
    → rest_of new ≡ record (rest_of old) { closes = closes } → HasBoth pool old first second
    → HasBoth pool new first second

-- and each stands when the other is spent
abbrev pub OneIsLeft : Type 0
OneIsLeft =
    (pool : Pool) (old new : View) (first second : Hold) → HasBoth pool old first second
    → AfterUnhold pool old new first.arena → CanUnhold pool new first × CanUnhold pool new second

-- so do holds of other arenas
abbrev pub OthersAreLeft : Type 0
OthersAreLeft =
    (pool : Pool) (old new : View) (other : ArenaId) (hold : Hold) → AfterUnhold pool old new other
    → other ≢ hold.arena → CanUnhold pool old hold → CanUnhold pool new hold

pub record HoldsStand : Type 0 where
  pub at_hold : StandsAtHold
  pub both : BothAtHold
  pub stand : BothStand
  pub one_left : OneIsLeft
  pub others_left : OthersAreLeft
