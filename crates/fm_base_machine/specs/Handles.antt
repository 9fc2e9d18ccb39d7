-- The handles of an automatic arena: opening it takes the first, a Hold another; an Unhold gives one back, a Shut the last.
use Rattle.std.specs.Prelude.{◌≡◌, ◌≢◌, ℕ, ◌+◌, ◌<◌, Bool, true, false, List, [], ◌∷◌, ◌++◌}
use Rattle.fm_base.specs.{declared.arena_id.ArenaId.{ArenaId}, Arenas.{Alive, arena_of, same_id}, Calls.{Call, Open, Hold, Unhold, Shut, Reply, Fine, Entry}}
use Rattle.fm_base.specs.Histories.{IsLegal, state_after}
use Rattle.fm_base_machine.specs.Functions.{Stage, Lives, Machine}

abbrev pub one_if : Bool → ℕ
one_if true = 1
one_if false = 0

-- how many handles of the arena a call takes that was answered so
abbrev pub taken_by : ArenaId → Call → Reply → ℕ
taken_by id (Open a) reply = one_if (same_id a id)
taken_by id (Hold a) Fine = one_if (same_id a id)
taken_by id call reply = 0

-- and how many it gives back
abbrev pub given_by : ArenaId → Call → Reply → ℕ
given_by id (Unhold a) reply = one_if (same_id a id)
given_by id (Shut a) Fine = one_if (same_id a id)
given_by id call reply = 0

abbrev pub all_taken : ArenaId → List Entry → ℕ
all_taken id [] = 0
all_taken id (e ∷ es) = taken_by id e.call e.reply + all_taken id es

abbrev pub all_given : ArenaId → List Entry → ℕ
all_given id [] = 0
all_given id (e ∷ es) = given_by id e.call e.reply + all_given id es

abbrev pub one_alive : Stage → ℕ
one_alive Lives = 1
one_alive stage = 0

-- how many handles the functions say that the arena has
abbrev pub handles_of : Machine → ArenaId → ℕ
handles_of t a = t.holds a + one_alive (t.life a)

-- of the handles that these entries took, so many weren't given back
abbrev pub AreLeft : ArenaId → List Entry → ℕ → Type 0
AreLeft id es n = all_taken id es ≡ all_given id es + n

-- an arena that is alive has one handle more than holds, and one that isn't has none
pub record HandlesAreCounted : Type 0 where
  pub alive : (limit : ℕ) (h : List Entry) (id : ArenaId) → IsLegal limit [] h → (arena_of (state_after limit [] h) id).life ≡ Alive
      → AreLeft id h ((arena_of (state_after limit [] h) id).holds + 1)
  pub none : (limit : ℕ) (h : List Entry) (id : ArenaId) → IsLegal limit [] h → (arena_of (state_after limit [] h) id).life ≢ Alive
      → AreLeft id h 0

-- what a last entry tells of the handles that were left before it
pub record LastHandleEnds : Type 0 where
  -- a Shut is answered Fine just where one is left
  pub shut : (limit : ℕ) (h : List Entry) (e : Entry) (id : ArenaId) → IsLegal limit [] (h ++ e ∷ []) → e.call ≡ Shut id → e.reply ≡ Fine
      → AreLeft id h 1
  pub shuts : (limit : ℕ) (h : List Entry) (e : Entry) (id : ArenaId) → IsLegal limit [] (h ++ e ∷ []) → e.call ≡ Shut id → AreLeft id h 1
      → e.reply ≡ Fine
  -- an Unhold comes only where more are
  pub unhold : (limit : ℕ) (h : List Entry) (e : Entry) (id : ArenaId) → IsLegal limit [] (h ++ e ∷ []) → e.call ≡ Unhold id
      → (n : ℕ) × AreLeft id h n × (1 < n)
