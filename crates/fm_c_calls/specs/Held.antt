-- A caller's bytes in an arena of one thread, and what a query answers over them.
use Rattle.std.specs.Prelude.{◌≡◌, ◌≢◌, ℕ, ◌%◌, ◌<◌, ◌≤◌, List, length, take, Result, Ok, Err}
use Rattle.fm_base.specs.{declared.{arena_id.ArenaId.{ArenaId}, refusal.Refusal.{Refusal, TheVariants.{Memory, NoRoom, Ragged}}}, View.{View, given_in}}
use Rattle.fm_records_query.specs.{Parsed.{IsParsed, IsNoQuery}, Plan.{Plan}, Records.{IsRecord, IsNoRecord}}
use Rattle.fm_records.specs.{declared.found.Found.{Found}, Answers.{answer}, Texts.{IsAnswerOf, answer_text}}
use Rattle.fm_layout.specs.Tree.{Tree}
use Rattle.fm_segment.specs.Region.{Region}
use Rattle.fm_segment_access.specs.Alone.{bytes_of_arena}
use Rattle.fm_top_load.specs.{Held.{IsHeld}, Limits.{record_file_limit}}
use Rattle.fm_c_calls.specs.{Output.{Fills}, Reading.{IsLayoutOf, IsNoLayout, IsNoText}}

-- the arena is held, has given these bytes, and they stand from its start on
pub record StandFirst (v : View) (a : ArenaId) (bytes : List ℕ) : Type 0 where
  pub held : IsHeld v a
  pub given : length bytes ≤ given_in v a
  pub room : length bytes ≤ length (bytes_of_arena v.state a)
  pub stand : take (length bytes) (bytes_of_arena v.state a) ≡ bytes

-- the region is just these
pub record Holds (v : View) (s : Region) (bytes : List ℕ) : Type 0 where
  pub first : s.first ≡ 0
  pub size : s.size ≡ length bytes
  pub stand : StandFirst v s.arena bytes

-- ---- what a query answers over bytes

pub record IsAnswer (p : Plan) (bytes : List ℕ) (a : List Found) : Type 0 where
  pub short : length bytes ≤ record_file_limit
  pub whole : length bytes % p.size ≡ 0
  pub found : a ≡ answer p bytes
  pub items : IsAnswerOf p a

-- why it answers nothing: the bytes are too many, or no whole number of records; or memory was wanting
pub data IsNoAnswer (p : Plan) (bytes : List ℕ) : Refusal → Type 0 where
  too_many : record_file_limit < length bytes → IsNoAnswer p bytes (NoRoom 0)
  uneven : length bytes ≤ record_file_limit → length bytes % p.size ≢ 0 → IsNoAnswer p bytes (Ragged (length bytes % p.size))
  no_memory : IsNoAnswer p bytes Memory

-- ---- the query that bytes spell

pub record IsPlanned (json query : List ℕ) (p : Plan) : Type 0 where
  pub layout : Tree
  pub read : IsLayoutOf json layout
  pub records : IsRecord layout
  pub parsed : IsParsed query layout p

-- why they spell none over such records, the first cause that applies
pub data IsNoPlan (json query : List ℕ) (e : Refusal) : Type 0 where
  no_layout : IsNoLayout json e → IsNoPlan json query e
  no_record : (t : Tree) → IsLayoutOf json t → IsNoRecord t e → IsNoPlan json query e
  no_text : (t : Tree) → IsLayoutOf json t → IsRecord t → IsNoText query e → IsNoPlan json query e
  no_query : (t : Tree) → IsLayoutOf json t → IsRecord t → IsNoQuery query t e → IsNoPlan json query e

-- ---- its answer's text

pub record IsAnswered (json query records old new : List ℕ) (n : ℕ) : Type 0 where
  pub plan : Plan
  pub planned : IsPlanned json query plan
  pub found : List Found
  pub answer_is : IsAnswer plan records found
  pub fills : Fills old new (answer_text plan (answer plan records)) n

-- why there is no answer, the first cause that applies
pub data IsUnanswered (json query records : List ℕ) (e : Refusal) : Type 0 where
  no_plan : IsNoPlan json query e → IsUnanswered json query records e
  no_answer : (p : Plan) → IsPlanned json query p → IsNoAnswer p records e → IsUnanswered json query records e

-- the answer's text was put, as far as there was room; or it was refused and nothing was
abbrev pub PutsAnswer : List ℕ → List ℕ → List ℕ → List ℕ → List ℕ → Result ℕ Refusal → Type 0
PutsAnswer json query records old new (Ok n) = IsAnswered json query records old new n
PutsAnswer json query records old new (Err e) = (new ≡ old) × IsUnanswered json query records e
