-- What the only caller of a memory sees of the bytes of its arenas, and where its calls are refused.
use Rattle.std.specs.Prelude.{◌≡◌, ◌≢◌, ◌⊎◌, ℕ, ◌+◌, ◌*◌, ◌%◌, ◌^◌, ◌≤◌, List, ◌++◌, length, take, drop}
use Rattle.fm_base.specs.{declared.arena_id.ArenaId.{ArenaId}, Arenas.{Alive, Arena, State, arena_of, changed, MayUse}, View.{View}}
use Rattle.fm_base_bytes.specs.{Bytes.{bytes_of, number_of}, Words.{bytes_in}}

-- all bytes of an arena, the lowest place first
abbrev pub bytes_of_arena : State → ArenaId → List ℕ
bytes_of_arena s id = bytes_in (arena_of s id).words

-- the number of so many bytes from the place on
abbrev pub number_at : List ℕ → ℕ → ℕ → ℕ
number_at all place width = number_of (take width (drop place all))

-- all with these bytes from the place on; the others stay
abbrev pub with_bytes : List ℕ → ℕ → List ℕ → List ℕ
with_bytes all place bytes = take place all ++ (bytes ++ drop (place + length bytes) all)

abbrev pub with_words : List ℕ → Arena → Arena
with_words words a = record a { words = words }

-- the states differ in this arena's words alone
abbrev pub DifferInWords : State → State → ArenaId → Type 0
DifferInWords s t id = t ≡ changed s id (with_words (arena_of t id).words)

-- x is what so many bytes from the place on mean, and the state stays
pub record FindsAs {X : Type 0} (mean : List ℕ → X) (old new : View) (id : ArenaId) (place width : ℕ) (x : X) : Type 0 where
  pub value : x ≡ mean (take width (drop place (bytes_of_arena old.state id)))
  pub same : new.state ≡ old.state

-- it is their number
abbrev pub FindsNumber : View → View → ArenaId → ℕ → ℕ → ℕ → Type 0
FindsNumber = FindsAs number_of

-- The arena's bytes from the place on are these. Its other bytes stay, those of other arenas, and all else of the state
pub record ChangesBytes (old new : View) (id : ArenaId) (place : ℕ) (bytes : List ℕ) : Type 0 where
  pub changed : bytes_of_arena new.state id ≡ with_bytes (bytes_of_arena old.state id) place bytes
  pub others : (other : ArenaId) → other ≢ id → bytes_of_arena new.state other ≡ bytes_of_arena old.state other
  pub rest : DifferInWords old.state new.state id

-- the arena is alive, and the caller may use it
pub record IsOpen (v : View) (id : ArenaId) : Type 0 where
  pub alive : (arena_of v.state id).life ≡ Alive
  pub usable : MayUse id v.caller

-- the arena isn't open to the caller, and the state stays
pub record StaysOut (old new : View) (id : ArenaId) : Type 0 where
  pub shut : ¬ (IsOpen old id)
  pub same : new.state ≡ old.state

-- ---- laws of bytes that were put among others

-- a number that was put is got where it was put, in as many bytes
abbrev pub GetsWhatWasPut : Type 0
GetsWhatWasPut =
    (all : List ℕ) (place width number : ℕ) → place ≤ length all
    → number_at (with_bytes all place (bytes_of width number)) place width ≡ number % 2 ^ (8 * width)

-- bytes that lie before or behind those that were put stay
abbrev pub KeepsBytesElsewhere : Type 0
KeepsBytesElsewhere =
    (all bytes : List ℕ) (place at size : ℕ) → place + length bytes ≤ length all
    → (at + size ≤ place) ⊎ (place + length bytes ≤ at)
    → take size (drop at (with_bytes all place bytes)) ≡ take size (drop at all)

-- and there are as many bytes as before
abbrev pub KeepsLength : Type 0
KeepsLength =
    (all bytes : List ℕ) (place : ℕ) → place + length bytes ≤ length all
    → length (with_bytes all place bytes) ≡ length all
