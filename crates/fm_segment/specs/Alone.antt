-- What the only caller of a memory sees of accesses to a segment.
use Rattle.std.specs.Prelude.{◌≡◌, ℕ, ℤ, ◌+◌, ◌≤◌, List, [], length, take, drop, replicate, Result, Ok, Err}
use Rattle.fm_base.specs.{declared.refusal.Refusal.{Refusal}, Arenas.{State}, View.{View}}
use Rattle.fm_lanes.specs.{declared.value.Value.{Value}, Coding.{value_of, bytes_of_value}}
use Rattle.fm_layout.specs.Tree as tree
use Rattle.fm_layout.specs.{Tree.{Tree}, Size.{size_of}}
use Rattle.fm_segment_access.specs.Alone.{bytes_of_arena, ChangesBytes}
use Rattle.fm_segment_copies.specs.{Sides.{side}, Alone.{bytes_at, first_difference, TakesBytes}}
use Rattle.fm_segment.specs.{Access.{Fits}, Comparisons.{common_size, mismatch_of}, Region.{Region}}

-- the region's bytes
abbrev pub bytes_of_region : State → Region → List ℕ
bytes_of_region s r = take r.size (drop r.first (bytes_of_arena s r.arena))

-- these bytes mean v, as the value of a layout
abbrev pub Means : Tree → List ℕ → Value → Type 0
Means (tree.Value k o l) bytes v = v ≡ value_of k o bytes
Means t bytes v = ⊥

-- the bytes that v is put as, as the value of a layout
abbrev pub bytes_by : Tree → Value → List ℕ
bytes_by (tree.Value k o l) v = bytes_of_value o v
bytes_by t v = []

-- the region's bytes from the offset on mean v, and the state stays
pub record FindsValue (old new : View) (r : Region) (t : Tree) (offset : ℕ) (v : Value) : Type 0 where
  pub value : Means t (take (size_of t) (drop offset (bytes_of_region old.state r))) v
  pub same : new.state ≡ old.state

-- The region's bytes from the offset on are those of v, and the arena has room for them; all other bytes stay, and
-- all else of the state
pub record PutsValue (old new : View) (r : Region) (t : Tree) (offset : ℕ) (v : Value) : Type 0 where
  pub bytes : ChangesBytes old new r.arena (r.first + offset) (bytes_by t v)
  pub within : r.first + offset + size_of t ≤ length (bytes_of_arena old.state r.arena)

-- where v was set, and a value is got next, it is v
abbrev pub SetsThenGets : Region → Tree → ℕ → Value → Type 0
SetsThenGets r t offset v =
    (old between new : View) (got : Value) → Fits offset t r
    → PutsValue old between r t offset v → FindsValue between new r t offset got → got ≡ v

-- ---- ranges

-- each byte of the region is this one; all other bytes stay, and all else of the state
abbrev pub FillsBytes : View → View → Region → ℕ → Type 0
FillsBytes old new r byte = ChangesBytes old new r.arena r.first (replicate r.size byte)

-- `n` bytes of `dst` from an offset on are those that `src` had from another on, wherever the two overlap;
-- all other bytes stay, and all else of the state
abbrev pub CopiesBytes : View → View → Region → ℕ → Region → ℕ → ℕ → Type 0
CopiesBytes old new src src_at dst dst_at n =
    TakesBytes old new (side src.arena (src.first + src_at)) (side dst.arena (dst.first + dst_at)) n

-- the first bytes of a region, as many as both have
abbrev pub common_bytes : State → Region → Region → List ℕ
common_bytes s r other = bytes_at s (side r.arena r.first) (common_size r other)

-- z is by the first of the common bytes that differs, and the state stays
pub record FindsMismatch (old new : View) (a b : Region) (z : ℤ) : Type 0 where
  pub first : z ≡ mismatch_of a.size b.size (first_difference (common_bytes old.state a b) (common_bytes old.state b a))
  pub same : new.state ≡ old.state

-- why a call that was checked first is refused: by its arguments, and then the state stays; or as `Shut` says
abbrev pub StaysOutAfter : View → View → Result (Unit {0}) Refusal → Type 0 → Type 0
StaysOutAfter old new (Ok u) Shut = Shut
StaysOutAfter old new (Err r) Shut = new.state ≡ old.state
