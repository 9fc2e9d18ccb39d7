-- Offsets that stay within 64 bits, index by index.
use Rattle.std.{specs.Prelude.{◌≢◌, ℕ, ℤ, pos, negsuc, ◌*◌, ◌^◌, ◌<◌, ◌≤◌, List, [], ◌∷◌}, proofs.Common.{suc}}
use Rattle.fm_layout.specs.{Tree.{Tree}, Size.{size_of}, WellFormed.{IsWellFormed}}
use Rattle.fm_path_meaning.specs.{declared.dim.Dim.{Dim}, Walk.{reach}}

-- how far back an index leads
abbrev pub dip : ℤ → ℕ → ℕ
dip (pos s) i = 0
dip (negsuc s) i = suc s * i

-- an index leads back no further than the offset so far, and on no further than 64 bits
pub record IsInside (at : ℕ) (s : ℤ) (i : ℕ) : Type 0 where
  pub back : dip s i ≤ at
  pub on : reach at s i < 2 ^ 64

abbrev pub IsSteady : ℕ → List Dim → List ℕ → Type 0
IsSteady at [] is = Unit {0}
IsSteady at (d ∷ ds) [] = Unit {0}
IsSteady at (d ∷ ds) (i ∷ is) = IsInside at d.stride i × IsSteady (reach at d.stride i) ds is

-- the bytes of a step fit, where there is a second index
abbrev pub IsShort : ℤ → ℕ → ℕ → Type 0
IsShort (pos s) bytes bound = bound ≢ 1 → s * bytes ≤ 2 ^ 40
IsShort (negsuc s) bytes bound = bound ≢ 1 → suc s * bytes ≤ 2 ^ 40

-- the elements of a row stay within the limit
pub record IsRow (count : ℕ) (t : Tree) : Type 0 where
  pub well : IsWellFormed t
  pub fits : count * size_of t ≤ 2 ^ 40
