-- What a close outlives, until its marks are visited, and then until its arena is swept.
use Rattle.std.specs.{Prelude.{◌≡◌, ◌≢◌, Bool, true, false, List, [], ◌∷◌, ◌++◌, Result, Ok, Err, ⊤}, List.{AllByRecursion}}
use Rattle.fm_base.specs.{declared.{arena_id.ArenaId.{ArenaId}, kind.Kind.{Kind}, refusal.Refusal.{Refusal}}, Calls.{Entry}}
use Rattle.fm_rule_facts.specs.Views.{View}
use Rattle.fm_rule.specs.declared.pool.Pool.{Pool}
use Rattle.fm_rule_calls.specs.Kept.{Goes, rest_of}
use Rattle.fm_gate.specs.{declared.held.Hold.{Hold}, Crews.{StandsOn}, Needs.{IsOutside}, Learnt.{AfterHold, AfterUnhold, AfterOpen, AfterAgain}}
use Rattle.fm_close.specs.declared.{gave_back.GaveBack.{GaveBack}, shutting.Shutting.{Shutting}, outcome.Visit.{Visit}}
use Rattle.fm_close.specs.Learnt.{IsUnderWay, IsToSweep, AfterShut, AfterVisit, AfterSweep, AfterGiveBack}

-- it stands, at the same mark, where the pass goes on and has what it had
abbrev pub CloseStands : Type 0
CloseStands =
    (old new : View) (own : List Entry) (s : Shutting) → Goes old new own → rest_of new ≡ rest_of old
    → IsUnderWay old s → IsUnderWay new s

abbrev pub SweepStands : Type 0
SweepStands =
    (old new : View) (own : List Entry) (s : Shutting) → Goes old new own → rest_of new ≡ rest_of old
    → IsToSweep old s → IsToSweep new s

-- what stands of this close through the calls of another
pub record StandsBeside (P : View → Shutting → Type 0) : Type 0 where
  -- where another arena is shut
  pub at_shut : (pool : Pool) (old new : View) (other : ArenaId) (result : Result Shutting Refusal) (s : Shutting)
      → AfterShut pool old new other result → other ≢ s.arena → P old s → P new s
  -- and where a mark is visited for the close of another arena
  pub at_visit : (pool : Pool) (old new : View) (t u : Shutting) (result : Visit) (s : Shutting)
      → AfterVisit pool old new t u result → t.arena ≢ s.arena → P old s → P new s
  -- and where another arena is swept
  pub at_sweep : (pool : Pool) (old new : View) (other : ArenaId) (s : Shutting)
      → AfterSweep pool old new other → other ≢ s.arena → P old s → P new s
  -- and where passes are drawn from its pass, met by it or gathered into it
  pub onward : (pool : Pool) (old new : View) (s : Shutting) → StandsOn pool old new → P old s → P new s

-- what stands of it where the pass, which is outside, takes and spends holds and handles, and opens arenas
pub record StandsThrough (P : View → Shutting → Type 0) : Type 0 where
  pub at_hold : (pool : Pool) (old new : View) (id : ArenaId) (result : Result Hold Refusal) (s : Shutting)
      → IsOutside pool old → AfterHold pool old new id result → P old s → P new s
  pub at_unhold : (pool : Pool) (old new : View) (id : ArenaId) (s : Shutting)
      → IsOutside pool old → AfterUnhold pool old new id → P old s → P new s
  pub at_open : (pool : Pool) (old new : View) (kind : Kind) (result : Result ArenaId Refusal) (s : Shutting)
      → IsOutside pool old → AfterOpen pool old new kind result → P old s → P new s
  pub at_again : (pool : Pool) (old new : View) (id : ArenaId) (result : Result (Unit {0}) Refusal) (s : Shutting)
      → IsOutside pool old → AfterAgain pool old new id result → P old s → P new s
  pub at_give_back : (pool : Pool) (old new : View) (id : ArenaId) (result : GaveBack) (s : Shutting)
      → IsOutside pool old → AfterGiveBack pool old new id result → P old s → P new s

-- ---- closes of several arenas by one pass

-- the close is under way, or its arena has ended and is to be swept
abbrev pub StandsBy : (ended : Bool) → View → Shutting → Type 0
StandsBy false p s = IsUnderWay p s
StandsBy true p s = IsToSweep p s

-- each of them stands, and no two are of one arena
abbrev pub StandTogether : View → List Shutting → Type 0
StandTogether p [] = ⊤
StandTogether p (s ∷ ss) = StandsBy s.ended p s × AllByRecursion (λ t. t.arena ≢ s.arena) ss × StandTogether p ss

-- so they do through calls of the pass, also through those of one of them
pub record ClosesLast : Type 0 where
  pub stand : (old new : View) (own : List Entry) (ss : List Shutting) → Goes old new own → rest_of new ≡ rest_of old
      → StandTogether old ss → StandTogether new ss
  -- one more is begun: it is of none of their arenas, since an arena is shut once
  pub at_shut : (pool : Pool) (old new : View) (id : ArenaId) (s : Shutting) (ss : List Shutting)
      → AfterShut pool old new id (Ok s) → StandTogether old ss → StandTogether new (s ∷ ss)
  pub at_refusal : (pool : Pool) (old new : View) (id : ArenaId) (r : Refusal) (ss : List Shutting)
      → AfterShut pool old new id (Err r) → StandTogether old ss → StandTogether new ss
  -- a mark is visited for one of them
  pub at_visit : (pool : Pool) (old new : View) (s t : Shutting) (result : Visit) (before after : List Shutting)
      → AfterVisit pool old new s t result → StandTogether old (before ++ s ∷ after) → StandTogether new (before ++ t ∷ after)
  -- the arena of one of them is swept
  pub at_sweep : (pool : Pool) (old new : View) (s : Shutting) (before after : List Shutting)
      → AfterSweep pool old new s.arena → StandTogether old (before ++ s ∷ after) → StandTogether new (before ++ after)
  -- and where passes are drawn from the pass, met by it or gathered into it
  pub onward : (pool : Pool) (old new : View) (ss : List Shutting) → StandsOn pool old new → StandTogether old ss → StandTogether new ss

pub record CloseLasts : Type 0 where
  pub stands : CloseStands
  pub beside : StandsBeside IsUnderWay
  pub through : StandsThrough IsUnderWay
  pub ended : SweepStands
  pub ended_beside : StandsBeside IsToSweep
  pub ended_through : StandsThrough IsToSweep
