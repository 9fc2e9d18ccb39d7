-- Putting many bytes: a run of visits, the lowest place first, of which one puts all the whole words.
use Rattle.std.specs.Prelude.{◌≡◌, ◌⊎◌, ℕ, ◌+◌, ◌*◌, ◌/◌, ◌%◌, ◌<◌, List, ◌++◌, length, drop, Result, Ok, Err}
use Rattle.fm_base.specs.{declared.{caller.Caller.{Caller}, arena_id.ArenaId.{ArenaId}, refusal.Refusal.{Refusal}}, Arenas.{MayUse}, Calls.{Entry}}
use Rattle.fm_base.specs.{Does.{DoesEnter}, Visits.{visit, writes}}
use Rattle.fm_base_bytes.specs.Words.{bytes_in, words_from}
use Rattle.fm_segment_access.specs.Ranges.{Putting, PutsOn, DoesPutBy, DoesSome}

-- at a word's start: one visit puts all the whole words that are left
pub record PutsWords (c : Caller) (id : ArenaId) (x : Putting) (own : List Entry) (y : Putting) : Type 0 where
  pub words : List ℕ
  pub some : 0 < length words
  pub even : x.at % 8 ≡ 0
  pub bytes : x.bytes ≡ bytes_in words ++ y.bytes
  pub few : length y.bytes < 8
  pub at : y.at ≡ x.at + 8 * length words
  pub visits : own ≡ visit c id (writes id (x.at / 8) words)

-- elsewhere, or where no whole word is left: one visit puts a piece
pub record PutsPart (c : Caller) (id : ArenaId) (x : Putting) (own : List Entry) (y : Putting) : Type 0 where
  pub no_word : x.at % 8 ≡ 0 → length x.bytes < 8
  pub piece : PutsOn c id x own y

-- one visit more
abbrev pub PutsMore : Caller → ArenaId → Putting → List Entry → Putting → Type 0
PutsMore c id x own y = PutsWords c id x own y ⊎ PutsPart c id x own y

-- the next bytes are put in one visit, so many of them
abbrev pub DoesPutNext : Caller → ArenaId → Putting → Result ℕ Refusal → List Entry → Type 0
DoesPutNext c id x (Ok n) own = MayUse id c × PutsMore c id x own (record { at = x.at + n; bytes = drop n x.bytes })
DoesPutNext c id x (Err r) own = DoesEnter c id (Err r) own

-- the first `count` words of these bytes are put in one visit
abbrev pub DoesPutWords : Caller → ArenaId → ℕ → ℕ → List ℕ → Result (Unit {0}) Refusal → List Entry → Type 0
DoesPutWords c id place count bytes (Ok u) own = MayUse id c × (own ≡ visit c id (writes id (place / 8) (words_from count bytes)))
DoesPutWords c id place count bytes (Err r) own = DoesEnter c id (Err r) own

-- these bytes are put from the place on; there may be none
abbrev pub DoesPutAll : Caller → ArenaId → ℕ → List ℕ → Result (Unit {0}) Refusal → List Entry → Type 0
DoesPutAll c id place bytes = DoesSome (length bytes) (DoesPutBy PutsMore c id place bytes)
