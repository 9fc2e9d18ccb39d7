-- Counts of an arena that no entry changes: its given bytes and its holds.
use Rattle.std.specs.{Prelude.{◌≡◌, ◌≢◌, ℕ, List, ⊤}, List.{AllByRecursion}}
use Rattle.fm_base.specs.{declared.arena_id.ArenaId.{ArenaId}, Arenas.{State, arena_of}, Calls.{Call, Allocate, Hold, Entry}, Histories.{state_after}}

-- the call asks no bytes of the arena
abbrev pub AsksNone : ArenaId → Call → Type 0
AsksNone id (Allocate a size align) = a ≢ id
AsksNone id call = ⊤

-- an arena in which no entry allocates has given as much as before
abbrev pub GivenStays : Type 0
GivenStays =
    (limit : ℕ) (s : State) (es : List Entry) (id : ArenaId) → AllByRecursion (λ e. AsksNone id e.call) es
    → (arena_of (state_after limit s es) id).given ≡ (arena_of s id).given

-- the call takes no hold of the arena
abbrev pub HoldsNone : ArenaId → Call → Type 0
HoldsNone id (Hold a) = a ≢ id
HoldsNone id call = ⊤

-- an arena that nobody holds, and of which no entry takes a hold, is held by nobody
abbrev pub StaysUnheld : Type 0
StaysUnheld =
    (limit : ℕ) (s : State) (es : List Entry) (id : ArenaId) → AllByRecursion (λ e. HoldsNone id e.call) es
    → (arena_of s id).holds ≡ 0 → (arena_of (state_after limit s es) id).holds ≡ 0
