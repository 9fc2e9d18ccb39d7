-- Groups of values by a table in a second arena of the pool in which records stand.
use Rattle.std.specs.{Prelude.{◌≡◌, ℕ, ◌*◌, ◌/◌, ◌%◌, ◌<◌, ◌≤◌, List, ◌++◌, length}, Int.{IsNextPowerOfTwo}}
use Rattle.fm_base.specs.{declared.arena_id.ArenaId.{ArenaId}, Calls.{Entry}}
use Rattle.fm_base_lists.specs.Among.{IsAmong}
use Rattle.fm_path.specs.Resolution.{Resolution, StaysInside}
use Rattle.fm_rule_facts.specs.Views.{View}
use Rattle.fm_records_query.specs.Plan.{value_count}
use Rattle.fm_records.specs.Shares.{AreSpared}
use Rattle.fm_rule.specs.{declared.pool.Pool.{Pool}, Finishing.{FinishedView}}
use Rattle.fm_segment.specs.Region.{region_of}
use Rattle.fm_group.specs.{Table.{Counter}, Values.{Valued, count_of, valued}}
use Rattle.fm_group_crew.specs.Grouped.{words_of}
use Rattle.fm_top_pooled.specs.{Besides.{IsBeside}, Shown.{AreRead, ShowsRecords}, Stocked.{IsStocked, bytes_in_pool}}

-- a path through records that stand aligned one behind the other, each with no more values than bytes
pub record HasValues (r : Resolution) : Type 0 where
  pub sized : 0 < r.root_size
  pub multiple : r.root_size % r.root_alignment ≡ 0
  pub stays : StaysInside r
  pub few : value_count r.dims ≤ r.root_size

-- how many values of the path are in so many bytes of records
abbrev pub values_in : Resolution → (size : ℕ) → ℕ
values_in r size = size / r.root_size * value_count r.dims

-- the size of a table for so many values: it has the least power of two of places that is at least twice as many, and at least one
pub record IsTableFor (values size : ℕ) : Type 0 where
  pub places : ℕ
  pub least : IsNextPowerOfTwo (2 * values) places
  pub size_is : size ≡ 16 * places

-- it fits in so many bytes
pub record HasTableFor (values beside : ℕ) : Type 0 where
  pub size : ℕ
  pub table : IsTableFor values size
  pub fits : size ≤ beside

-- a table counts values in records, in an arena beside them, of which all words are 0
pub record CanGroup (pool : Pool) (p : View) (w : Counter) : Type 0 where
  pub stocked : IsStocked pool p w.values.records
  pub beside : IsBeside p w.values.records w.table w.table.size
  pub table : IsTableFor (count_of w.values) w.table.size

-- the values of the path in these bytes, which stand from place 0 of the arena
abbrev pub values_of : Resolution → (bytes : List ℕ) → ArenaId → Valued
values_of r bytes id = valued r (region_of id 0 (length bytes))

-- one of them has this word
pub record IsWordOfValue (r : Resolution) (bytes : List ℕ) (id : ArenaId) (word : ℕ) : Type 0 where
  pub ordinal : ℕ
  pub below : ordinal < count_of (values_of r bytes id)
  pub has : IsAmong word (words_of (values_of r bytes id) ordinal)

-- The records stood, nobody changed them, and then others have read each word of each value
pub record ReadsValues (pool : Pool) (old new : View) (v : Valued) : Type 0 where
  pub before : IsStocked pool old v.records
  pub stocked : IsStocked pool new v.records
  pub same : bytes_in_pool new v.records ≡ bytes_in_pool old v.records
  pub more : List Entry
  pub seen : new.seen ≡ old.seen ++ more
  pub spared : AreSpared v.records more
  pub read : AreRead more (IsWordOfValue v.path (bytes_in_pool old v.records)) v.records.arena

-- the pool's history, in which the values of the path in these bytes were grouped
abbrev pub ShowsValues : FinishedView → Resolution → List ℕ → Type 0
ShowsValues f r bytes = ShowsRecords f bytes (IsWordOfValue r bytes)
