-- Values of a segment by layout and offset, runs of its bytes, and calls on whole segments, inside a visit.
use Rattle.std.specs.Prelude.{◌≡◌, ℕ, ℤ, ◌+◌, ◌/◌, ◌%◌, ◌≤◌, ◌^◌, List, [], ◌∷◌, ◌++◌, length, take, drop, replicate, Option, Some, Result, Ok, Err}
use Rattle.fm_base.specs.{declared.{arena_id.ArenaId.{ArenaId}, refusal.Refusal.{Refusal}}, Calls.{Read, Found}, View.{View, Did, given_in}, Visits.{Acts, entries_of}}
use Rattle.fm_base_bytes.specs.Bytes.{lane}
use Rattle.fm_lanes.specs.{declared.value.Value.{Value}, Coding.{value_of, bytes_of_value}, Kind.{width_of}}
use Rattle.fm_layout.specs.Tree as tree
use Rattle.fm_layout.specs.Tree.{Tree}
use Rattle.fm_segment_access.specs.{Alone.{bytes_of_arena, ChangesBytes}, Ranges.{Putting}}
use Rattle.fm_segment_copies.specs.{declared.side.Side.{Side}, Sides.{side}}
use Rattle.fm_segment.specs.{Access.{IsKnown, place_of, writable_place_of}, Alone.{FindsValue, PutsValue, FillsBytes, CopiesBytes, FindsMismatch}, Region.{Region}}
use Rattle.fm_segment.specs.{Comparisons.{common_size, mismatch_of}, Copies.{checked_copy}, Fills.{checked_write}, Puts.{checked_put}, Slices.{slice_of}}
use Rattle.fm_visit.specs.{Acts.{ActsAt}, Learnt.{AfterInside, IsIn}, Runs.{GetsAs, GetsFrom, PutsFrom, Copies, ComparesFrom}}

-- inside the arena of this name, which has given so many bytes from the place on
pub record Reaches (v : View) (id : ArenaId) (place size : ℕ) : Type 0 where
  pub inside : v.inside ≡ Some id
  pub given : place + size ≤ given_in v id
  pub small : place + size ≤ 2 ^ 40

-- the same of two sides
pub record ReachesBoth (v : View) (a b : Side) (count : ℕ) : Type 0 where
  pub first : Reaches v a.arena a.at count
  pub second : Reaches v b.arena b.at count
  pub same : b.arena ≡ a.arena

-- one Read of the word of a piece, whose bytes make v
pub record ReadsPart (old new : View) (id : ArenaId) (place width v : ℕ) : Type 0 where
  pub word : ℕ
  pub value : v ≡ lane word (place % 8) width
  pub did : Did old new (λ own. own ≡ entries_of old.caller ((Read id (place / 8), Found word) ∷ []))
  pub inside : new.inside ≡ Some id

-- the next bytes that are read, so many: a piece, or whole words, of which each is one; they stand first in `bytes`
pub record GetsNext (id : ArenaId) (place : ℕ) (bytes : List ℕ) (n : ℕ) (acts : Acts) : Type 0 where
  pub onward : (rest : List ℕ) (later : Acts) → n + length rest ≡ length bytes → GetsFrom id (place + n) rest later
      → GetsFrom id place (take n bytes ++ rest) (acts ++ later)

-- the next bytes that are put, so many: a piece, or whole words, of which each is one
pub record PutsNext (id : ArenaId) (x : Putting) (n : ℕ) (acts : Acts) : Type 0 where
  pub onward : (later : Acts) → PutsFrom id (x.at + n) (drop n x.bytes) later → PutsFrom id x.at x.bytes (acts ++ later)

-- ---- what is done at a place

-- the value of a layout is read there
abbrev pub GetsHere : ArenaId → Tree → ℕ → Result Value Refusal → Acts → Type 0
GetsHere id (tree.Value k o l) place (Ok v) acts = GetsAs (value_of k o) id place (width_of k) v acts
GetsHere id t place result acts = ⊥

-- these bytes are put there
abbrev pub PutsHere : ArenaId → List ℕ → ℕ → Result (Unit {0}) Refusal → Acts → Type 0
PutsHere id bytes place (Ok u) acts = PutsFrom id place bytes acts
PutsHere id bytes place (Err r) acts = ⊥

-- the bytes that v is put as, as the value of a layout
abbrev pub SetsHere : ArenaId → Tree → Value → ℕ → Result (Unit {0}) Refusal → Acts → Type 0
SetsHere id (tree.Value k o l) v place result acts = PutsHere id (bytes_of_value o v) place result acts
SetsHere id t v place result acts = ⊥

-- these bytes are read there
abbrev pub FindsHere : ArenaId → List ℕ → ℕ → Result (Unit {0}) Refusal → Acts → Type 0
FindsHere id bytes place (Ok u) acts = GetsFrom id place bytes acts
FindsHere id bytes place (Err r) acts = ⊥

-- the place, where a check was passed
abbrev pub placed_at : ℕ → {X : Type 0} → Result X Refusal → Result ℕ Refusal
placed_at place (Ok x) = Ok place
placed_at place (Err e) = Err e

-- ---- the acts of each call, and what the only caller sees

module _ (r : Region) where
  abbrev pub DoesGet : Tree → ℕ → Result Value Refusal → Acts → Type 0
  DoesGet t offset = ActsAt (place_of offset t r) (GetsHere r.arena t)

  abbrev pub DoesSet : Tree → ℕ → Value → Result (Unit {0}) Refusal → Acts → Type 0
  DoesSet t offset v = ActsAt (writable_place_of offset t r) (SetsHere r.arena t v)

  abbrev pub DoesGetBytes : ℕ → List ℕ → Result (Unit {0}) Refusal → Acts → Type 0
  DoesGetBytes offset bytes = ActsAt (placed_at (r.first + offset) (slice_of offset (length bytes) r)) (FindsHere r.arena bytes)

  abbrev pub DoesPutBytes : ℕ → List ℕ → Result (Unit {0}) Refusal → Acts → Type 0
  DoesPutBytes offset bytes = ActsAt (placed_at (r.first + offset) (checked_put r offset (length bytes))) (PutsHere r.arena bytes)

  abbrev pub DoesFill : ℕ → Result (Unit {0}) Refusal → Acts → Type 0
  DoesFill byte = ActsAt (placed_at r.first (checked_write r.size r)) (PutsHere r.arena (replicate r.size byte))

  -- the bytes are those that stand there, and the state stays
  pub record FindsBytes (old new : View) (offset : ℕ) (bytes : List ℕ) : Type 0 where
    pub value : bytes ≡ take (length bytes) (drop (r.first + offset) (bytes_of_arena old.state r.arena))
    pub same : new.state ≡ old.state

-- `n` bytes from an offset of `src` are copied to one of `dst`
abbrev pub CopiesHere : Region → ℕ → Region → ℕ → ℕ → ℕ → Result (Unit {0}) Refusal → Acts → Type 0
CopiesHere src src_at dst dst_at n place (Ok u) acts = Copies (side src.arena (src.first + src_at)) (side dst.arena (dst.first + dst_at)) n acts
CopiesHere src src_at dst dst_at n place (Err r) acts = ⊥

abbrev pub DoesCopy : Region → ℕ → Region → ℕ → ℕ → Result (Unit {0}) Refusal → Acts → Type 0
DoesCopy src src_at dst dst_at n =
    ActsAt (placed_at (dst.first + dst_at) (checked_copy src src_at dst dst_at n)) (CopiesHere src src_at dst dst_at n)

abbrev pub DoesMismatch : Region → Region → Result ℤ Refusal → Acts → Type 0
DoesMismatch a b (Ok z) acts =
    (found : Option ℕ)
    × ComparesFrom (side a.arena a.first) (side b.arena b.first) (common_size a b) (common_size a b) found acts
    × (z ≡ mismatch_of a.size b.size found)
DoesMismatch a b (Err r) acts = ⊥

-- ---- what is asked for, and learnt

-- inside the arena of two segments that the memory knows
pub record AreIn (v : View) (id : ArenaId) (a b : Region) : Type 0 where
  pub first : IsIn v id a
  pub second : IsKnown v b
  pub same : b.arena ≡ a.arena

module _ (old new : View) (r : Region) where
  abbrev pub AfterGet : Tree → ℕ → Result Value Refusal → Type 0
  AfterGet t offset = AfterInside old new r.arena r (DoesGet r t offset) (FindsValue old new r t offset)

  abbrev pub AfterSet : Tree → ℕ → Value → Result (Unit {0}) Refusal → Type 0
  AfterSet t offset v = AfterInside old new r.arena r (DoesSet r t offset v) (λ u. PutsValue old new r t offset v)

  abbrev pub AfterGetBytes : ℕ → List ℕ → Result (Unit {0}) Refusal → Type 0
  AfterGetBytes offset bytes = AfterInside old new r.arena r (DoesGetBytes r offset bytes) (λ u. FindsBytes r old new offset bytes)

  abbrev pub AfterPutBytes : ℕ → List ℕ → Result (Unit {0}) Refusal → Type 0
  AfterPutBytes offset bytes = AfterInside old new r.arena r (DoesPutBytes r offset bytes) (λ u. ChangesBytes old new r.arena (r.first + offset) bytes)

  abbrev pub AfterFill : ℕ → Result (Unit {0}) Refusal → Type 0
  AfterFill byte = AfterInside old new r.arena r (DoesFill r byte) (λ u. FillsBytes old new r byte)

module _ (old new : View) (src : Region) (src_at : ℕ) (dst : Region) (dst_at n : ℕ) where
  abbrev pub AfterCopy : Result (Unit {0}) Refusal → Type 0
  AfterCopy = AfterInside old new src.arena src (DoesCopy src src_at dst dst_at n) (λ u. CopiesBytes old new src src_at dst dst_at n)

module _ (old new : View) (a b : Region) where
  abbrev pub AfterMismatch : Result ℤ Refusal → Type 0
  AfterMismatch = AfterInside old new a.arena a (DoesMismatch a b) (FindsMismatch old new a b)
