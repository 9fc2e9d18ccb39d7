-- Bytes that are whole records, and layouts that records may have.
use Rattle.std.specs.Prelude.{◌≡◌, ◌≢◌, ℕ, ◌%◌, ◌<◌, ◌≤◌, List, length}
use Rattle.fm_base.specs.declared.refusal.Refusal.{Refusal, TheVariants.{NoRoom, Ragged}}
use Rattle.fm_layout.specs.Tree.{Tree}
use Rattle.fm_records_query.specs.Records.{IsRecord, IsNoRecord}
use Rattle.fm_top_load.specs.Limits.{record_file_limit}
use Rattle.fm_c_calls.specs.Reading.{IsLayoutOf, IsNoLayout}

-- the bytes are the JSON of this layout, of which records can stand one behind the other
pub record IsRecordLayout (json : List ℕ) (t : Tree) : Type 0 where
  pub read : IsLayoutOf json t
  pub records : IsRecord t

-- why they aren't, the first cause that applies; or memory was wanting
pub data IsNoRecordLayout (json : List ℕ) (e : Refusal) : Type 0 where
  no_layout : IsNoLayout json e → IsNoRecordLayout json e
  no_record : (t : Tree) → IsLayoutOf json t → IsNoRecord t e → IsNoRecordLayout json e

-- as many as a query takes, and a whole number of records of this size
pub record AreWhole (bytes : List ℕ) (size : ℕ) : Type 0 where
  pub short : length bytes ≤ record_file_limit
  pub whole : length bytes % size ≡ 0

-- why they aren't, the first cause that applies
pub data AreNotWhole (bytes : List ℕ) (size : ℕ) : Refusal → Type 0 where
  too_many : record_file_limit < length bytes → AreNotWhole bytes size (NoRoom 0)
  uneven : length bytes ≤ record_file_limit → length bytes % size ≢ 0 → AreNotWhole bytes size (Ragged (length bytes % size))
