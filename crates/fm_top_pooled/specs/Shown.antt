-- What the history of a finished pool shows of records that passes read.
use Rattle.std.specs.Prelude.{◌≡◌, ◌≢◌, ◌⊎◌, ℕ, true, List, [], ◌++◌, length}
use Rattle.fm_base.specs.{declared.{arena_id.ArenaId.{ArenaId}, caller.Caller.{Caller}}, Arenas.{State, has_arena, only_caller}, Calls.{Entry}}
use Rattle.fm_base.specs.Histories.{IsLegal, IsTidy, state_after}
use Rattle.fm_path.specs.Resolution.{Resolution}
use Rattle.fm_rule_facts.specs.{Loans.{IsRightlyLent}, Views.{limit_of}}
use Rattle.fm_records_query.specs.Plan.{Plan}
use Rattle.fm_records.specs.{Alone.{bytes_at_places}, Bytes.{HasRead}, Laws.{IsAsked, value_in}, Reads.{IsWordOf}, Shares.{AreSpared}}
use Rattle.fm_rule.specs.{Finishing.{FinishedView}, GivenBytes.{state_of}}
use Rattle.fm_segment.specs.Region.{region_of}

-- one history of one-thread arenas, which changes only bytes that were given, and whose pages are lent rightly
pub record IsHistory (f : FinishedView) : Type 0 where
  pub legal : IsLegal (limit_of f.shape) [] f.history
  pub tidy : IsTidy (limit_of f.shape) [] f.history
  pub lent : IsRightlyLent f.shape.page_words (limit_of f.shape) f.history

-- another than the pool's first pass has read the word
pub record IsReadByOther (es : List Entry) (id : ArenaId) (word : ℕ) : Type 0 where
  pub caller : Caller
  pub other : caller ≢ only_caller
  pub read : HasRead caller id word es

-- a value that the query asks for in a chosen record has this word, where the records stand from place 0 of the arena
pub record AsksWord (p : Plan) (bytes : List ℕ) (id : ArenaId) (word : ℕ) : Type 0 where
  pub index : ℕ
  pub path : Resolution
  pub indices : List ℕ
  pub asked : IsAsked p bytes index path indices
  pub has : IsWordOf (value_in p (region_of id 0 (length bytes)) index path indices) word

-- others have read each word of these
abbrev pub AreRead : List Entry → (ArenaId → ℕ → Type 0) → ArenaId → Type 0
AreRead es Asks id = (word : ℕ) → Asks id word → IsReadByOther es id word

-- what the pool's memory holds after the first entries of its history
abbrev pub state_before : FinishedView → List Entry → State
state_before f before = state_after (limit_of f.shape) [] before

-- After some entries the bytes stand from place 0 of one arena. Then nobody changes them, and others have read there each word that is
-- asked for
pub record ShowsRecords (f : FinishedView) (bytes : List ℕ) (Asks : ArenaId → ℕ → Type 0) : Type 0 where
  pub is_history : IsHistory f
  pub id : ArenaId
  pub before : List Entry
  pub after : List Entry
  pub parts : f.history ≡ before ++ after
  pub known : has_arena (state_before f before) id ≡ true
  pub stand : bytes_at_places (state_before f before) (region_of id 0 (length bytes)) ≡ bytes
  pub spared : AreSpared (region_of id 0 (length bytes)) after
  pub read : AreRead after Asks id
  -- so they stand in the end
  pub last : bytes_at_places (state_of f) (region_of id 0 (length bytes)) ≡ bytes

-- the pool's history, in which the query was answered over these bytes
abbrev pub ShowsQuery : FinishedView → Plan → List ℕ → Type 0
ShowsQuery f p bytes = ShowsRecords f bytes (AsksWord p bytes)

-- in which both queries were
abbrev pub ShowsBoth : FinishedView → Plan → Plan → List ℕ → Type 0
ShowsBoth f p q bytes = ShowsRecords f bytes (λ id word. AsksWord p bytes id word ⊎ AsksWord q bytes id word)
