-- What one caller's entries leave of a byte, where all other callers spare it.
use Rattle.std.specs.{Prelude.{◌≡◌, ◌≢◌, ◌+◌, ℕ, ◌/◌, ◌%◌, ◌^◌, ◌==◌, if◌then◌else◌, List, [], ◌∷◌}, List.{AllByRecursion}}
use Rattle.fm_base_bytes.specs.Words.{byte_of, byte_at}
use Rattle.fm_base.specs.{declared.{arena_id.ArenaId.{ArenaId}, caller.Caller.{Caller}}, Arenas.{State, arena_of, same_id}}
use Rattle.fm_base.specs.{Calls.{Call, Write, SwapIf, Add, Reply, Found, Entry}, Histories.{IsLegal, made_by, state_after}, Untouched.{Spares}}

-- the byte at this place once the word `word` of the arena `a` has this value
abbrev pub byte_put : ArenaId → ℕ → ArenaId → ℕ → ℕ → ℕ → ℕ
byte_put id place a word value byte =
    if same_id a id then (if word == place / 8 then byte_of value (place % 8) else byte) else byte

-- the byte that an entry leaves at a place, by its call and its reply alone
abbrev pub byte_left : ArenaId → ℕ → Call → Reply → ℕ → ℕ
byte_left id place (Write a word value) reply byte = byte_put id place a word value byte
byte_left id place (SwapIf a word old new) (Found found) byte =
    if found == old then byte_put id place a word new byte else byte
byte_left id place (Add a word n) (Found found) byte = byte_put id place a word ((found + n) % 2 ^ 64) byte
byte_left id place call reply byte = byte

-- the byte that entries in a row leave
abbrev pub byte_behind : ArenaId → ℕ → List Entry → ℕ → ℕ
byte_behind id place [] byte = byte
byte_behind id place (e ∷ es) byte = byte_behind id place es (byte_left id place e.call e.reply byte)

-- where all other callers spare a byte, it is what the caller's own entries leave
abbrev pub OwnDecide : Type 0
OwnDecide =
    (limit : ℕ) (s : State) (es : List Entry) (c : Caller) (id : ArenaId) (place : ℕ) → IsLegal limit s es
    → AllByRecursion (λ e. e.caller ≢ c → Spares id place e.call) es
    → byte_at (arena_of (state_after limit s es) id).words place
    ≡ byte_behind id place (made_by c es) (byte_at (arena_of s id).words place)
