-- Where a value stands by the numbers of its place, which may be any, and why it is nowhere.
use Rattle.std.specs.Prelude.{◌≡◌, ◌⊎◌, ℕ, ◌+◌, ◌<◌, ◌≤◌, nat_eq, nat_le, if◌then◌else◌, List, [], ◌∷◌, map, Result, Ok, Err}
use Rattle.fm_base.specs.declared.refusal.Refusal.{Refusal, TheVariants.{Bounds, IndexOut}}
use Rattle.fm_path.specs.Resolution.{Resolution, StaysInside}
use Rattle.fm_path_meaning.specs.{declared.dim.Dim.{Dim}, Steady.{IsSteady}, Walk.{AreAdmitted, offset_at}}
use Rattle.fm_c_calls.specs.{declared.{place.{Place.{Place}, Stride.{Stride}}, spot.Within.{Within}}, Placed.{place_of, strides_of}}

abbrev pub dim_of : Stride → Dim
dim_of s = record { stride = s.stride; bound = s.bound }

abbrev pub dims_of : List Stride → List Dim
dims_of ss = map dim_of ss

-- how many bytes a value takes whose kind has this number; a number that is none's counts as that of longs
abbrev pub code_width : ℕ → ℕ
code_width n = if nat_le n 1 then 1 else (if nat_le n 3 then 2 else (if nat_eq n 4 then 4 else 8))

-- the first index, counted from k, that isn't below its bound, is missing, or is one too many
abbrev pub IsOut : ℕ → List Stride → List ℕ → ℕ → Type 0
IsOut k [] [] n = ⊥
IsOut k [] (i ∷ is) n = n ≡ k
IsOut k (s ∷ ss) [] n = n ≡ k
IsOut k (s ∷ ss) (i ∷ is) n = ((s.bound ≤ i) × (n ≡ k)) ⊎ ((i < s.bound) × IsOut (k + 1) ss is n)

-- ---- the offset

-- no sum on the way passes 64 bits or falls below 0, and it comes to this
pub record IsReached (at : ℕ) (ss : List Stride) (is : List ℕ) (n : ℕ) : Type 0 where
  pub steady : IsSteady at (dims_of ss) is
  pub offset : n ≡ offset_at at (dims_of ss) is

abbrev pub IsUnreached : ℕ → List Stride → List ℕ → Type 0
IsUnreached at ss is = ¬ (IsSteady at (dims_of ss) is)

-- the value lies in the record
pub record LiesThere (p : Place) (ss : List Stride) (is : List ℕ) : Type 0 where
  pub steady : IsSteady p.offset (dims_of ss) is
  pub inside : offset_at p.offset (dims_of ss) is + code_width p.kind ≤ p.root_size

pub record LeadsTo (p : Place) (ss : List Stride) (is : List ℕ) (n : ℕ) : Type 0 where
  pub lies : LiesThere p ss is
  pub offset : n ≡ offset_at p.offset (dims_of ss) is

abbrev pub LeadsNowhere : Place → List Stride → List ℕ → Type 0
LeadsNowhere p ss is = ¬ (LiesThere p ss is)

-- ---- the call

pub record IsFoundAt (p : Place) (ss : List Stride) (is : List ℕ) (w : Within) (at n : ℕ) : Type 0 where
  pub admitted : AreAdmitted (dims_of ss) is
  pub root : w.base + p.root_size ≤ w.size
  pub lies : LiesThere p ss is
  pub place : at ≡ w.base + offset_at p.offset (dims_of ss) is
  pub bare : n ≡ 0

-- why it is nowhere, the first cause that applies
pub data IsNowhere (p : Place) (ss : List Stride) (is : List ℕ) (w : Within) : Refusal → Type 0 where
  index_out : (k : ℕ) → IsOut 0 ss is k → IsNowhere p ss is w (IndexOut k)
  record_out : AreAdmitted (dims_of ss) is → w.size < w.base + p.root_size → IsNowhere p ss is w Bounds
  value_out : AreAdmitted (dims_of ss) is → w.base + p.root_size ≤ w.size → LeadsNowhere p ss is → IsNowhere p ss is w Bounds

-- where the value stands was put; or it was refused and nothing was
abbrev pub FindsAt : Place → List Stride → List ℕ → Within → ℕ → ℕ → Result ℕ Refusal → Type 0
FindsAt p ss is w old new (Ok n) = IsFoundAt p ss is w new n
FindsAt p ss is w old new (Err e) = (new ≡ old) × IsNowhere p ss is w e

-- the place of a resolved path leads into the record at all admitted indices
abbrev pub PlacesLeadInside : Type 0
PlacesLeadInside = (r : Resolution) (is : List ℕ) → StaysInside r → AreAdmitted r.dims is → LiesThere (place_of r) (strides_of r.dims) is
