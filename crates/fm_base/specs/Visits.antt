-- Visits to an arena, tries on a word, pieces of a run of bytes, and calls that are a run of visits.
use Rattle.std.{specs.Prelude.{◌≡◌, ℕ, ◌+◌, ◌-◌, ◌%◌, min, List, [], ◌∷◌, ◌++◌}, proofs.Common.{suc}}
use Rattle.fm_base.specs.declared.{caller.Caller.{Caller}, arena_id.ArenaId.{ArenaId}}
use Rattle.fm_base.specs.Calls.{Call, Enter, Read, Write, SwapIf, Leave, Reply, Fine, Closed, Found, Entry, entry_of}

-- ---- visits

-- what one caller did in an arena: calls, each with its reply
abbrev pub Acts : Type 0
Acts = List (Call × Reply)

abbrev pub entries_of : Caller → Acts → List Entry
entries_of caller [] = []
entries_of caller (act ∷ acts) = entry_of caller act.0 act.1 ∷ entries_of caller acts

-- the caller entered, acted and left
abbrev pub visit : Caller → ArenaId → Acts → List Entry
visit caller id acts = entry_of caller (Enter id) Fine ∷ entries_of caller acts ++ entry_of caller (Leave id) Fine ∷ []

-- the caller found the arena closed
abbrev pub refused_visit : Caller → ArenaId → List Entry
refused_visit caller id = entry_of caller (Enter id) Closed ∷ []

-- a Write of each of these words, the first at this index
abbrev pub writes : ArenaId → ℕ → List ℕ → Acts
writes id word [] = []
writes id word (v ∷ vs) = (Write id word v, Fine) ∷ writes id (suc word) vs

-- a Read of each word of a run, the first at this index, which found these
abbrev pub reads : ArenaId → ℕ → List ℕ → Acts
reads id word [] = []
reads id word (v ∷ vs) = (Read id word, Found v) ∷ reads id (suc word) vs

-- ---- tries

-- Any number of Read, and of SwapIf that didn't find their old word.
-- Last comes a SwapIf that found it, whose new word is the stated change of the old
pub data Tries (id : ArenaId) (word : ℕ) (change : ℕ → ℕ) (found : ℕ) : Acts → Type 0 where
  looked : (now : ℕ) (acts : Acts) → Tries id word change found acts
      → Tries id word change found ((Read id word, Found now) ∷ acts)
  missed : (now old new : ℕ) (acts : Acts) → ¬ (now ≡ old) → Tries id word change found acts
      → Tries id word change found ((SwapIf id word old new, Found now) ∷ acts)
  hit : Tries id word change found ((SwapIf id word found (change found), Found found) ∷ [])

-- ---- pieces: the longest runs of bytes that lie in one word

-- the bytes from `at` on, up to `end`, that lie in the word of `at`
abbrev pub piece_width : ℕ → ℕ → ℕ
piece_width at end = min (end - at) (8 - at % 8)

-- the first of `left` bytes that lie in one word of each side
abbrev pub first_width : ℕ → ℕ → ℕ → ℕ
first_width source target left = min (piece_width source (source + left)) (8 - target % 8)

-- the last of `left` bytes that lie in one word of each side
abbrev pub last_width : ℕ → ℕ → ℕ → ℕ
last_width source target left =
    min (min left ((source + left - 1) % 8 + 1)) ((target + left - 1) % 8 + 1)

-- ---- calls that are a run of visits

-- `Step x entries y` goes on from x to y, where x and y say what is left to do.
-- `Ends x entries answer` is the end
pub data Run {X Y : Type 0} (Step : X → List Entry → X → Type 0) (Ends : X → List Entry → Y → Type 0) : X → List Entry → Y → Type 0 where
  ends : {x : X} {own : List Entry} {answer : Y} → Ends x own answer → Run Step Ends x own answer
  goes_on : {x : X} (y : X) (own rest : List Entry) {answer : Y} → Step x own y → Run Step Ends y rest answer
      → Run Step Ends x (own ++ rest) answer
