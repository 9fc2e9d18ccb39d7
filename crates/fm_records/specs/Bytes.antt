-- Reads that find the bytes of a region as a list has them.
use Rattle.std.specs.{Prelude.{◌≡◌, ℕ, ◌+◌, ◌-◌, ◌*◌, ◌<◌, ◌≤◌, List, length, slice_index, Ok}, List.{AllByRecursion}}
use Rattle.fm_base.specs.{declared.{caller.Caller.{Caller}, arena_id.ArenaId.{ArenaId}}, Calls.{Read, Found as Found_word, Entry, entry_of}}
use Rattle.fm_base_bytes.specs.Words.{byte_of}
use Rattle.fm_base_lists.specs.Among.{IsAmong}
use Rattle.fm_records_query.specs.Plan.{Plan, IsPlan}
use Rattle.fm_segment.specs.Region.{Region}
use Rattle.fm_records.specs.{declared.found.Found.{Found}, Query.{DoesQuery}}

-- byte `at` of the word, the lowest first, is one of the region
pub record IsByteOf (s : Region) (word at : ℕ) : Type 0 where
  pub in_word : at < 8
  pub from : s.first ≤ 8 * word + at
  pub below : 8 * word + at < s.first + s.size

-- where the entry reads a word of the region's arena, the region's bytes in it are as in the list
abbrev pub FindsAs : Region → List ℕ → Entry → Type 0
FindsAs s bytes e =
    (word found at : ℕ) → e.call ≡ Read s.arena word → e.reply ≡ Found_word found → IsByteOf s word at
    → byte_of found at ≡ slice_index bytes (8 * word + at - s.first)

abbrev pub FindAs : Region → List ℕ → List Entry → Type 0
FindAs s bytes own = AllByRecursion (FindsAs s bytes) own

-- one of the entries is the caller's Read of the word
pub record HasRead (c : Caller) (id : ArenaId) (word : ℕ) (own : List Entry) : Type 0 where
  pub found : ℕ
  pub among : IsAmong (entry_of c (Read id word) (Found_word found)) own

-- the query was answered over the region by Reads that found these bytes
pub record IsAnswered (c : Caller) (p : Plan) (s : Region) (bytes : List ℕ) (a : List Found) (own : List Entry) : Type 0 where
  pub plan : IsPlan p
  pub size : length bytes ≡ s.size
  pub finds : FindAs s bytes own
  pub does : DoesQuery c p s (Ok a) own
