-- Bytes that no entry of a history changes, and arenas that no entry closes.
use Rattle.std.specs.{Prelude.{◌≡◌, ◌≢◌, ℕ, ◌/◌, ◌%◌, true, List, ⊤}, List.{AllByRecursion}}
use Rattle.fm_base_bytes.specs.Words.{byte_of, byte_at}
use Rattle.fm_base.specs.{declared.arena_id.ArenaId.{ArenaId}, Arenas.{Alive, State, arena_of, has_arena}}
use Rattle.fm_base.specs.{Calls.{Call, Enter, Read, Write, SwapIf, Add, Shut, End, Fine, Found, Entry}, Histories.{IsLegal, state_after}}

-- ---- bytes

-- the call is on the word of this byte
abbrev pub IsAt : ArenaId → ℕ → ArenaId → ℕ → Type 0
IsAt id place a word = (a ≡ id) × (word ≡ place / 8)

-- whatever the words are, the call leaves this byte of the arena
abbrev pub Spares : ArenaId → ℕ → Call → Type 0
Spares id place (Write a word value) = ¬ (IsAt id place a word)
Spares id place (SwapIf a word old new) =
    IsAt id place a word → byte_of new (place % 8) ≡ byte_of old (place % 8)
Spares id place (Add a word n) = ¬ (IsAt id place a word)
Spares id place call = ⊤

abbrev pub AllSpare : ArenaId → ℕ → List Entry → Type 0
AllSpare id place es = AllByRecursion (λ e. Spares id place e.call) es

-- a byte that all entries spare stays
abbrev pub SparedStays : Type 0
SparedStays =
    (limit : ℕ) (s : State) (es : List Entry) (id : ArenaId) (place : ℕ) → IsLegal limit s es → AllSpare id place es
    → byte_at (arena_of (state_after limit s es) id).words place ≡ byte_at (arena_of s id).words place

-- where the entry reads the byte's word, the byte is this one
abbrev pub FindsByte : ArenaId → ℕ → ℕ → Entry → Type 0
FindsByte id place byte e =
    (found : ℕ) → e.call ≡ Read id (place / 8) → e.reply ≡ Found found → byte_of found (place % 8) ≡ byte

-- and each Read finds it
abbrev pub SparedIsFound : Type 0
SparedIsFound =
    (limit : ℕ) (s : State) (es : List Entry) (id : ArenaId) (place : ℕ) → IsLegal limit s es → AllSpare id place es
    → AllByRecursion (FindsByte id place (byte_at (arena_of s id).words place)) es

-- ---- arenas

-- the call doesn't close the arena
abbrev pub LeavesOpen : ArenaId → Call → Type 0
LeavesOpen id (Shut a) = a ≢ id
LeavesOpen id (End a) = a ≢ id
LeavesOpen id call = ⊤

abbrev pub AllLeaveOpen : ArenaId → List Entry → Type 0
AllLeaveOpen id es = AllByRecursion (λ e. LeavesOpen id e.call) es

-- nobody finds it closed
abbrev pub ComesIn : ArenaId → Entry → Type 0
ComesIn id e = e.call ≡ Enter id → e.reply ≡ Fine

-- an arena that no entry closes stays alive, and everyone comes in
abbrev pub StaysAlive : Type 0
StaysAlive =
    (limit : ℕ) (s : State) (es : List Entry) (id : ArenaId) → IsLegal limit s es → has_arena s id ≡ true
    → (arena_of s id).life ≡ Alive → AllLeaveOpen id es
    → ((arena_of (state_after limit s es) id).life ≡ Alive) × AllByRecursion (ComesIn id) es
