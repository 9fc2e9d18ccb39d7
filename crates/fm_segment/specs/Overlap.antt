-- Which bytes two segments share (`asOverlappingSlice`).
use Rattle.std.specs.Prelude.{◌≡◌, ℕ, ◌+◌, ◌-◌, ◌<◌, ◌≤◌, Ok}
use Rattle.fm_base.specs.declared.arena_id.ArenaId.{ArenaId}
use Rattle.fm_segment.specs.{Region.{Region}, Slices.{slice_of}}

-- the byte at this place of this arena is in the region
pub record HasByte (r : Region) (arena : ArenaId) (place : ℕ) : Type 0 where
  pub same : r.arena ≡ arena
  pub from : r.first ≤ place
  pub below : place < r.first + r.size

-- they share no byte
abbrev pub AreApart : Region → Region → Type 0
AreApart r other = (arena : ArenaId) (place : ℕ) → HasByte r arena place → HasByte other arena place → ⊥

-- it is the slice of the first whose bytes are those that both have
pub record IsOverlap (r other slice : Region) : Type 0 where
  pub slice_at : slice_of (slice.first - r.first) slice.size r ≡ Ok slice
  pub shared : (arena : ArenaId) (place : ℕ) → HasByte slice arena place → HasByte r arena place × HasByte other arena place
  pub whole : (arena : ArenaId) (place : ℕ) → HasByte r arena place → HasByte other arena place → HasByte slice arena place
