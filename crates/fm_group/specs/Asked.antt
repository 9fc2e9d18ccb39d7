-- What calls ask for.
use Rattle.std.specs.Prelude.{◌≡◌, ℕ, ◌*◌, ◌<◌, ◌≤◌, None}
use Rattle.fm_base.specs.{Arenas.{MayUse}, View.{View}}
use Rattle.fm_segment.specs.Access.{IsKnown}
use Rattle.fm_group.specs.{Counting.{MayCount}, Reading.{run_length, runs_in}, Table.{CanTable, Counter, places_in}, Values.{AreValued, Valued, count_of}}

-- ---- of who calls

-- the caller is in no arena, and the records are known
pub record CanNumber (v : View) (values : Valued) (n : ℕ) : Type 0 where
  pub outside : v.inside ≡ None
  pub known : IsKnown v values.records
  pub below : n < count_of values

-- the caller is in no arena, and both segments are known
pub record IsReady (v : View) (w : Counter) : Type 0 where
  pub outside : v.inside ≡ None
  pub records : IsKnown v w.values.records
  pub table : IsKnown v w.table

-- and there is such a value
pub record CanCount (v : View) (w : Counter) (n : ℕ) : Type 0 where
  pub ready : IsReady v w
  pub below : n < count_of w.values

-- ---- of inner calls

-- the records are known and open to the caller, and there is such a value
pub record CanValue (v : View) (values : Valued) (n : ℕ) : Type 0 where
  pub are : AreValued values
  pub outside : v.inside ≡ None
  pub known : IsKnown v values.records
  pub may : MayUse values.records.arena v.caller
  pub below : n < count_of values

-- both segments are known and open to the caller
pub record CanTry (v : View) (w : Counter) (n : ℕ) : Type 0 where
  pub table : CanTable w
  pub outside : v.inside ≡ None
  pub records : IsKnown v w.values.records
  pub known : IsKnown v w.table
  pub may : MayCount v.caller w
  pub below : n ≤ count_of w.values

pub record CanTryAt (v : View) (w : Counter) (n p : ℕ) : Type 0 where
  pub can : CanTry v w n
  pub within : p < places_in w.table

-- and there is such a run of places
pub record CanReadRun (v : View) (w : Counter) (k : ℕ) : Type 0 where
  pub can : CanTry v w 0
  pub within : k < runs_in w.table

-- which has so many words
pub record CanLook (v : View) (w : Counter) (k count : ℕ) : Type 0 where
  pub read : CanReadRun v w k
  pub long : count ≡ 2 * run_length w.table k
