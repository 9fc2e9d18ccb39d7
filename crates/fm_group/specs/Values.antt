-- The values of a path in the records of a segment, numbered from 0: records in order, in one record in the order of index lists.
use Rattle.std.specs.{Prelude.{◌≡◌, ℕ, ◌+◌, ◌*◌, ◌/◌, ◌%◌, ◌<◌, ◌≤◌, List, [], ◌∷◌, length, map, ℤ}, List.{flat_map, range_with_len}}
use Rattle.fm_layout.specs.Tree.{Tree}
use Rattle.fm_path.specs.Resolution.{IsResolved, Resolution, StaysInside}
use Rattle.fm_path_text.specs.declared.step.PathStep.{PathStep}
use Rattle.fm_path_meaning.specs.{Walk.{offset_at}, declared.dim.Dim.{Dim}}
use Rattle.fm_records_query.specs.Plan.{value_count}
use Rattle.fm_records.specs.{Records.{records}, Values.{number_there, numbers_in}}
use Rattle.fm_segment.specs.Region.{EndsByLimit, Region}

-- the path, and the segment of whose records it is one
pub record Valued : Type 0 where
  pub path : Resolution
  pub records : Region

abbrev pub valued : Resolution → Region → Valued
valued r s = record { path = r; records = s }

-- whole records, the first of them aligned; a path through one, with no more values than it has bytes
pub record AreValued (v : Valued) : Type 0 where
  pub sized : 0 < v.path.root_size
  pub multiple : v.path.root_size % v.path.root_alignment ≡ 0
  pub whole : v.records.size % v.path.root_size ≡ 0
  pub aligned : v.records.first % v.path.root_alignment ≡ 0
  pub stays : StaysInside v.path
  pub few : value_count v.path.dims ≤ v.path.root_size
  pub ends : EndsByLimit v.records.first v.records.size

-- how many values a record has, and how many there are
abbrev pub in_record : Valued → ℕ
in_record v = value_count v.path.dims

abbrev pub count_of : Valued → ℕ
count_of v = v.records.size / v.path.root_size * in_record v

-- the indices of the n-th value of a record
abbrev pub indices_at : List Dim → ℕ → List ℕ
indices_at [] n = []
indices_at (d ∷ ds) n = n / value_count ds ∷ indices_at ds (n % value_count ds)

-- where the n-th value stands in a record, and where among all records
abbrev pub offset_in_record : Valued → ℕ → ℕ
offset_in_record v n = offset_at v.path.offset v.path.dims (indices_at v.path.dims n)

abbrev pub offset_of : Valued → ℕ → ℕ
offset_of v n = n / in_record v * v.path.root_size + offset_in_record v (n % in_record v)

-- its number, where these are the segment's bytes
abbrev pub number_in : Valued → List ℕ → ℕ → ℤ
number_in v bytes n = number_there v.path.value.kind v.path.value.order (offset_of v n) bytes

-- the numbers of all values of a path in all records of these bytes
abbrev pub all_numbers : Resolution → List ℕ → List ℤ
all_numbers r bytes = flat_map (numbers_in r) (records r.root_size bytes)

-- ---- laws

-- numbered from 0 they are all numbers, in their order
abbrev pub NumbersByOrdinal : Type 0
NumbersByOrdinal =
    (v : Valued) (bytes : List ℕ) → AreValued v → length bytes ≡ v.records.size
    → map (number_in v bytes) (range_with_len 0 (count_of v)) ≡ all_numbers v.path bytes

-- a path that was resolved has no more values than its record has bytes
abbrev pub ResolvedIsFew : Type 0
ResolvedIsFew = (path : List PathStep) (t : Tree) (r : Resolution) → IsResolved path t r → value_count r.dims ≤ r.root_size
