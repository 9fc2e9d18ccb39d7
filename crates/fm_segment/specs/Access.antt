-- What accesses to the values of a segment do (`get` and `set` of `MemorySegment`, Java SE 22).
use Rattle.std.specs.Prelude.{◌<◌, ◌≡◌, ℕ, ◌+◌, ◌*◌, ◌≤◌, true, List, Result, Ok, Err, if◌then◌else◌, nat_le, min}
use Rattle.fm_base.specs.declared.{caller.Caller.{Caller}, arena_id.ArenaId.{ArenaId}, refusal.Refusal.{Refusal, TheVariants.{ReadOnly, Unsupported}}}
use Rattle.fm_base.specs.{Arenas.{has_arena}, Calls.{Entry}, View.{View, given_in}}
use Rattle.fm_lanes.specs.declared.{value.Value.{Value}, value_kind.ValueKind.{ValueKind}}
use Rattle.fm_layout.specs.Tree as tree
use Rattle.fm_layout.specs.{Tree.{Tree, alignment_of}, Size.{size_of}}
use Rattle.fm_segment_access.specs.{Found.{DoesAt, if_placed, PlaceCause, WriteCause}, Values.{DoesGetValue, DoesPutValue}}
use Rattle.fm_segment.specs.Region.{Region}

-- the memory knows its arena, and has given its bytes there
pub record IsKnown (v : View) (r : Region) : Type 0 where
  pub arena : has_arena v.state r.arena ≡ true
  pub given : r.first + r.size ≤ given_in v r.arena

-- a value layout of this kind
abbrev pub HasKind : Tree → ValueKind → Type 0
HasKind (tree.Value k o l) kind = kind ≡ k
HasKind t kind = ⊥

-- ---- where a value stands, or the first refusal that applies before the arena is entered

abbrev pub place_of : ℕ → Tree → Region → Result ℕ Refusal
place_of offset t r = if_placed offset (size_of t) (alignment_of t) r.first r.size (Ok (r.first + offset))

-- the same for a write
abbrev pub writable_place_of : ℕ → Tree → Region → Result ℕ Refusal
writable_place_of offset t r = if r.read_only then Err ReadOnly else place_of offset t r

-- an answer for layouts whose alignment is at most their size
abbrev pub if_tiling : Tree → Result ℕ Refusal → Result ℕ Refusal
if_tiling t answer = if nat_le (alignment_of t) (size_of t) then answer else Err Unsupported

-- The offset of the element of an index, or one past the end where it begins past the end.
-- Elements stand side by side where the alignment is at most the size
abbrev pub offset_of_index : ℕ → Tree → Region → Result ℕ Refusal
offset_of_index index t r = if_tiling t (Ok (min (index * size_of t) (r.size + 1)))

abbrev pub place_at_index : ℕ → Tree → Region → Result ℕ Refusal
place_at_index index t r = if_tiling t (place_of (index * size_of t) t r)

abbrev pub writable_place_at_index : ℕ → Tree → Region → Result ℕ Refusal
writable_place_at_index index t r = if_tiling t (writable_place_of (index * size_of t) t r)

-- the element of an index stands where a layout at this offset stands, to be read and to be written
abbrev pub StandsAtIndex : ℕ → Tree → Region → Result ℕ Refusal → Type 0
StandsAtIndex index t r (Ok n) = (place_of n t r ≡ place_at_index index t r) × (writable_place_of n t r ≡ writable_place_at_index index t r)
StandsAtIndex index t r (Err e) = (place_at_index index t r ≡ Err e) × (writable_place_at_index index t r ≡ Err e)

-- ---- what is done there

-- reading the value of a layout at a place
abbrev pub DoesGetHere : Caller → ArenaId → Tree → ℕ → Result Value Refusal → List Entry → Type 0
DoesGetHere c id (tree.Value k o l) place result own = DoesGetValue c k o id place result own
DoesGetHere c id t place result own = ⊥

-- putting v as the value of a layout there
abbrev pub DoesSetHere : Caller → ArenaId → Tree → Value → ℕ → Result (Unit {0}) Refusal → List Entry → Type 0
DoesSetHere c id (tree.Value k o l) v place result own = DoesPutValue c o id v place result own
DoesSetHere c id t v place result own = ⊥

abbrev pub DoesGetAt : Caller → ArenaId → Tree → Result ℕ Refusal → Result Value Refusal → List Entry → Type 0
DoesGetAt c id t found = DoesAt found (DoesGetHere c id t)

abbrev pub DoesSetAt : Caller → ArenaId → Tree → Result ℕ Refusal → Value → Result (Unit {0}) Refusal → List Entry → Type 0
DoesSetAt c id t found v = DoesAt found (DoesSetHere c id t v)

-- ---- why a refusal comes, the first cause that applies

abbrev pub Fits : ℕ → Tree → Region → Type 0
Fits offset t r = offset + size_of t ≤ r.size

abbrev pub GetCause : ℕ → Tree → Region → Caller → Refusal → Type 0
GetCause offset t r = PlaceCause offset (size_of t) (alignment_of t) r.first r.size r.arena

abbrev pub SetCause : ℕ → Tree → Region → Caller → Refusal → Type 0
SetCause offset t r c = WriteCause r.read_only (GetCause offset t r c)

-- an access by index asks first whether the layout's alignment is over its size
abbrev pub IndexCause : Tree → (Refusal → Type 0) → Refusal → Type 0
IndexCause t Cause Unsupported = size_of t < alignment_of t
IndexCause t Cause e = (alignment_of t ≤ size_of t) × Cause e
