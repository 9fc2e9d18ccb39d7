-- A whole visit: Enter, the acts of a caller's work in order, Leave.
use Rattle.std.specs.Prelude.{◌≡◌, None, List, Result, Ok, Err}
use Rattle.fm_base.specs.declared.{caller.Caller.{Caller}, arena_id.ArenaId.{ArenaId}, refusal.Refusal.{Refusal}}
use Rattle.fm_base.specs.{Arenas.{MayUse}, Calls.{Entry}, Does.{DoesEnter}, Outcomes.{Lasts}, View.{View, Did}, Visits.{Acts, visit}}
use Rattle.fm_visit.specs.Acts.{HasActs}

-- what a work does that is inside: acts of this kind, and it stays inside
pub record Acted (old new : View) (Do : Acts → Type 0) : Type 0 where
  pub did : Did old new (HasActs old.caller Do)
  pub inside : new.inside ≡ old.inside

-- the visit with these acts
pub record VisitsBy (c : Caller) (id : ArenaId) (Do : Acts → Type 0) (own : List Entry) : Type 0 where
  pub may : MayUse id c
  pub acts : Acts
  pub are : Do acts
  pub entries : own ≡ visit c id acts

abbrev pub DoesWithin : Caller → ArenaId → (Acts → Type 0) → Result (Unit {0}) Refusal → List Entry → Type 0
DoesWithin c id Do (Ok u) own = VisitsBy c id Do own
DoesWithin c id Do (Err r) own = DoesEnter c id (Err r) own

-- of `within`
pub record AfterWithin (old new : View) (id : ArenaId) (Do : Acts → Type 0) (result : Result (Unit {0}) Refusal) : Type 0 where
  pub did : Did old new (DoesWithin old.caller id Do result)
  pub outside : new.inside ≡ None
  pub lasts : Lasts old new
