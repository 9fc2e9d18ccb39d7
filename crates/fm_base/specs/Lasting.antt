-- What holds of every legal history.
use Rattle.std.specs.Prelude.{◌≡◌, ◌≢◌, ℕ, ◌+◌, ◌%◌, ◌≤◌, true, List, [], ◌∷◌, ◌++◌, All, Some}
use Rattle.fm_base_bytes.specs.Words.{byte_at}
use Rattle.fm_base.specs.{declared.{caller.Caller.{Caller}, arena_id.ArenaId.{ArenaId}}, Arenas.{has_arena, arena_of}}
use Rattle.fm_base.specs.{Calls.{Call, Open, Enter, Allocate, Hold, Shut, End, Fine, Closed, Given, Reply, Entry, entry_of}, Histories.{state_after, IsLegal, IsTidy, IsWhole}}
use Rattle.fm_base.specs.View.{View, Told, Makes, IsSound, KeepsFaith}

-- where a history is legal and tidy, every byte at or past the given count is 0
abbrev pub ZeroPastGiven : Type 0
ZeroPastGiven =
    (limit : ℕ) (h : List Entry) → IsLegal limit [] h → IsTidy limit [] h
    → let s = state_after limit [] h in
    (id : ArenaId) (place : ℕ) → (arena_of s id).given ≤ place → byte_at (arena_of s id).words place ≡ 0

-- and so every byte at or past the place that an Allocate gives is 0 then
abbrev pub GivesZeros : Type 0
GivesZeros =
    (limit : ℕ) (h : List Entry) (caller : Caller) (id : ArenaId) (size align given : ℕ)
    → IsLegal limit [] (h ++ entry_of caller (Allocate id size align) (Given given) ∷ []) → IsTidy limit [] h
    → (place : ℕ) → given ≤ place → byte_at (arena_of (state_after limit [] h) id).words place ≡ 0

-- the call is let through only where the arena is alive
abbrev pub AsksForLife : ArenaId → Call → Type 0
AsksForLife id (Enter a) = a ≡ id
AsksForLife id (Hold a) = a ≡ id
AsksForLife id (Shut a) = a ≡ id
AsksForLife id call = ⊥

-- after a Shut that was done no later Enter, Hold or Shut of the arena is
abbrev pub ShutsForGood : Type 0
ShutsForGood =
    (limit : ℕ) (before later : List Entry) (caller : Caller) (id : ArenaId)
    → IsLegal limit [] (before ++ entry_of caller (Shut id) Fine ∷ later)
    → All (λ e. AsksForLife id e.call → e.reply ≡ Closed) later

-- after End nobody is under way in the arena, and no later Enter of it is Ok
abbrev pub EndsForGood : Type 0
EndsForGood =
    (limit : ℕ) (before later : List Entry) (caller : Caller) (id : ArenaId) (reply : Reply)
    → IsLegal limit [] (before ++ entry_of caller (End id) reply ∷ later)
    → ((arena_of (state_after limit [] (before ++ entry_of caller (End id) reply ∷ [])) id).under_way ≡ [])
    × All (λ e. e.call ≡ Enter id → e.reply ≡ Closed) later

-- what one arena gave lies apart, at multiples of the alignments, within the limit
abbrev pub PlacesApart : Type 0
PlacesApart =
    (limit : ℕ) (before between later : List Entry) (c d : Caller) (id : ArenaId)
    (size align place size2 align2 place2 : ℕ)
    → IsLegal limit [] (before ++ entry_of c (Allocate id size align) (Given place) ∷ between
    ++ entry_of d (Allocate id size2 align2) (Given place2) ∷ later)
    → (place % align ≡ 0) × (place2 % align2 ≡ 0) × (place + size ≤ place2) × (place2 + size2 ≤ limit)

-- an arena stays in the list for ever, and its name never comes twice
abbrev pub StaysForEver : Type 0
StaysForEver =
    (limit : ℕ) (before later : List Entry) (id : ArenaId) → IsLegal limit [] (before ++ later)
    → has_arena (state_after limit [] before) id ≡ true
    → (has_arena (state_after limit [] (before ++ later)) id ≡ true) × All (λ e. e.call ≢ Open id) later

-- each arena of the list is the one that is looked up by its name
abbrev pub LooksUp : Type 0
LooksUp =
    (limit : ℕ) (h : List Entry) → IsLegal limit [] h
    → let s = state_after limit [] h in All (λ a. arena_of s a.id ≡ a) s

-- each arena of a legal history has all words of the limit, and gave no more bytes than the limit
abbrev pub StaysWhole : Type 0
StaysWhole =
    (limit : ℕ) (h : List Entry) → IsLegal limit [] h
    → let s = state_after limit [] h in
    (id : ArenaId) → has_arena s id ≡ true → IsWhole limit (arena_of s id)

-- a call that makes these entries keeps faith with them, where the history is told
abbrev pub AlwaysKeepsFaith : Type 0
AlwaysKeepsFaith =
    (old new : View) (own : List Entry) (t u : Told) → IsSound old → Makes old new own → old.told ≡ Some t
    → new.told ≡ Some u → KeepsFaith old.limit t u own
