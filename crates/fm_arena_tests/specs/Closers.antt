-- How far a closer is.
use Rattle.std.specs.Prelude.{Bool, true, false, Option, Some, None}
use Rattle.fm_base.specs.declared.arena_id.ArenaId.{ArenaId}
use Rattle.fm_rule_facts.specs.Views.{View}
use Rattle.fm_rule.specs.declared.pool.Pool.{Pool}
use Rattle.fm_gate.specs.Needs.{IsOutside, CanVisit}
use Rattle.fm_close.specs.{declared.shutting.Shutting.{Shutting}, Learnt.{IsUnderWay, IsToSweep}}

-- marks are still to be visited, or the arena has ended
abbrev pub IsOnItsWay : View → Bool → Shutting → Type 0
IsOnItsWay p true s = IsToSweep p s
IsOnItsWay p false s = IsUnderWay p s

-- the arena can be shut, or was shut by this pass
abbrev pub StandsAt : Pool → View → ArenaId → Option Shutting → Type 0
StandsAt pool p a None = CanVisit pool p a
StandsAt pool p a (Some s) = IsOutside pool p × IsOnItsWay p s.ended s
