-- Where passes stand once others are drawn from them, met and gathered.
use Rattle.std.specs.Prelude.{◌≡◌, List, [], Bool}
use Rattle.fm_base.specs.{declared.arena_id.ArenaId.{ArenaId}, Calls.{Entry}}
use Rattle.fm_rule_facts.specs.{Views.{View, IsSound}, Steps.{Stepped, none_noted}, Hands.{no_number}}
use Rattle.fm_rule.specs.{declared.pool.Pool.{Pool}, Passes.{IsOf, GoesOnFrom}, Draws.{Drawn, NoneDrawn, Looked, CanGather, Gathers}}
use Rattle.fm_rule_calls.specs.Kept.{Goes, Lasts, rest_of}
use Rattle.fm_gate.specs.{declared.held.Hold.{Hold}, Needs.{IsOutside, IsInside, CanUnhold}}

-- no hold, handle or page, and no close that isn't swept
pub record HasNothing (p : View) : Type 0 where
  pub no_hold : p.holds ≡ []
  pub no_handle : p.handles ≡ []
  pub no_page : p.pages ≡ []
  pub no_close : p.closes ≡ []
  pub no_sweep : p.sweeps ≡ []

-- The pass stands where it stood, has what it had, and knows what it knew
pub record StandsOn (pool : Pool) (old new : View) : Type 0 where
  pub of : IsOf pool old → IsOf pool new
  pub outside : IsOutside pool old → IsOutside pool new
  pub inside : (id : ArenaId) → IsInside pool old id → IsInside pool new id
  pub held : (hold : Hold) → CanUnhold pool old hold → CanUnhold pool new hold
  pub nothing : HasNothing old → HasNothing new
  pub closes : new.closes ≡ old.closes
  pub sweeps : new.sweeps ≡ old.sweeps
  pub home : new.home ≡ old.home
  pub caller : new.caller ≡ old.caller
  pub shape : new.shape ≡ old.shape
  pub lasts : Lasts old new

-- The giver of the pass d stands on, and d is outside, has nothing, and knows what the giver knows
pub record StandAfterDraw (pool : Pool) (old new d : View) : Type 0 where
  pub giver : StandsOn pool old new
  pub outside : IsOutside pool d
  pub nothing : HasNothing d
  pub lasts : Lasts old d

-- The pass stands on, and knows what the one that was gathered into it knew
pub record StandsAfterGather (pool : Pool) (old other new : View) : Type 0 where
  pub stands : StandsOn pool old new
  pub lasts : Lasts other new

-- ---- the laws

abbrev pub StandAtDraw : Type 0
StandAtDraw = (pool : Pool) (old new d : View) → IsOf pool old → Drawn old new d → StandAfterDraw pool old new d

abbrev pub StandsAtNoPass : Type 0
StandsAtNoPass = (pool : Pool) (old new : View) → NoneDrawn old new → StandsOn pool old new

abbrev pub StandsAtLook : Type 0
StandsAtLook = (pool : Pool) (old new : View) (result : Bool) → Looked old new result → StandsOn pool old new

abbrev pub StandsAtGather : Type 0
StandsAtGather =
    (pool : Pool) (old other new : View) → IsOf pool old → CanGather pool other → Gathers old other no_number new
    → StandsAfterGather pool old other new

-- where a pass met a note
abbrev pub StandsAtMeeting : Type 0
StandsAtMeeting = (pool : Pool) (old new : View) → Stepped old new old [] none_noted → StandsOn pool old new

-- a pass that has seen what another one had seen knows what that one knew
abbrev pub SeenIsKnown : Type 0
SeenIsKnown =
    (pool : Pool) (other p : View) → IsOf pool other → IsOf pool p → IsSound p → GoesOnFrom other.seen p.seen
    → Lasts other p

-- a pass that goes on and has what it had has nothing still
abbrev pub NothingStays : Type 0
NothingStays =
    (old new : View) (own : List Entry) → Goes old new own → rest_of new ≡ rest_of old → HasNothing old
    → HasNothing new

abbrev pub NothingIsGathered : Type 0
NothingIsGathered = (pool : Pool) (p : View) → IsOutside pool p → HasNothing p → CanGather pool p

pub record CrewStands : Type 0 where
  pub at_draw : StandAtDraw
  pub at_no_pass : StandsAtNoPass
  pub at_look : StandsAtLook
  pub at_gather : StandsAtGather
  pub at_meeting : StandsAtMeeting
  pub seen : SeenIsKnown
  pub nothing : NothingStays
  pub can_gather : NothingIsGathered
