-- Histories: lists of entries in order. Which are legal and which tidy, and what state one leaves.
use Rattle.std.specs.Prelude.{◌≡◌, ℕ, ◌+◌, ◌*◌, ◌%◌, ◌^◌, ◌<◌, ◌≤◌, List, [], ◌∷◌, length, filter, ⊤}
use Rattle.fm_base_bytes.specs.Words.{AreWords, byte_of}
use Rattle.fm_base.specs.{declared.caller.Caller.{Caller}, Arenas.{Arena, State, arena_of, word_in, are_one}, Calls.{Call, Write, SwapIf, Add, Entry}}
use Rattle.fm_base.specs.Machine.{MayCall, reply_to, after, words_within}

-- the state that entries leave
abbrev pub state_after : ℕ → State → List Entry → State
state_after limit s [] = s
state_after limit s (e ∷ es) = state_after limit (after limit s e) es

-- each entry is legal, with its reply, in the state that the entries before it leave
abbrev pub IsLegal : ℕ → State → List Entry → Type 0
IsLegal limit s [] = ⊤
IsLegal limit s (e ∷ es) =
    MayCall s e.caller e.call × (e.reply ≡ reply_to limit s e.call) × IsLegal limit (after limit s e) es

-- the entries of one caller
abbrev pub made_by : Caller → List Entry → List Entry
made_by caller es = filter (λ e. are_one e.caller caller) es

-- an arena has all words of the limit, and gave no more bytes than the limit
pub record IsWhole (limit : ℕ) (a : Arena) : Type 0 where
  pub words : length a.words ≡ words_within limit
  pub fit : AreWords a.words
  pub given : a.given ≤ limit

-- ---- which bytes an entry changes

-- the words `old` and `new`, at this index, differ only in bytes at places below `end`
abbrev pub DifferBelow : ℕ → ℕ → ℕ → ℕ → Type 0
DifferBelow end word old new = (at : ℕ) → at < 8 → end ≤ 8 * word + at → byte_of new at ≡ byte_of old at

-- the call, made in this state, changes only bytes at places below the given count of its arena
abbrev pub IsTidyIn : State → Call → Type 0
IsTidyIn s (Write id word value) = DifferBelow (arena_of s id).given word (word_in s id word) value
IsTidyIn s (SwapIf id word old new) =
    word_in s id word ≡ old → DifferBelow (arena_of s id).given word old new
IsTidyIn s (Add id word n) =
    DifferBelow (arena_of s id).given word (word_in s id word) ((word_in s id word + n) % 2 ^ 64)
IsTidyIn s call = ⊤

abbrev pub IsTidy : ℕ → State → List Entry → Type 0
IsTidy limit s [] = ⊤
IsTidy limit s (e ∷ es) = IsTidyIn s e.call × IsTidy limit (after limit s e) es
