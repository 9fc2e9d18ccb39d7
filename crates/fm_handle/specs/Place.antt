-- Where a handle's value stands in an arena, or the first refusal that applies before the arena is entered.
use Rattle.std.specs.Prelude.{Bool, true, false, ◌&&◌, ◌≡◌, ℕ, ◌+◌, ◌%◌, ◌^◌, ◌≤◌, List, [], ◌∷◌, Result, Ok, Err, IfOk, if◌then◌else◌, nat_le, nat_lt}
use Rattle.std.specs.Int.{is_power_of_two}
use Rattle.fm_base.specs.declared.refusal.Refusal.{Refusal, TheVariants.{IndexOut, ReadOnly, Unsupported}}
use Rattle.fm_lanes.specs.declared.{order.Order.{Order, TheVariants.{Little, Big}}, value_kind.ValueKind.{ValueKind, TheVariants.{Int, Long}}}
use Rattle.fm_lanes.specs.Kind.{width_of}
use Rattle.fm_path.specs.{declared.value_spec.ValueSpec.{ValueSpec}, Resolution.{Resolution}}
use Rattle.fm_path_meaning.specs.{declared.dim.Dim.{Dim}, Walk.{offset_at}}
use Rattle.fm_segment_access.specs.Found.{if_placed}
use Rattle.fm_segment.specs.Region.{Region}
use Rattle.fm_handle.specs.declared.handle.place.Support.{Support, TheVariants.{Number, Word}}
use Rattle.fm_handle.specs.declared.handle.place.Support.TheVariants as support

-- ---- on which values an update works

abbrev pub is_int_or_long : ValueKind → Bool
is_int_or_long Int = true
is_int_or_long Long = true
is_int_or_long k = false

abbrev pub is_long : ValueKind → Bool
is_long Long = true
is_long k = false

abbrev pub is_little : Order → Bool
is_little Little = true
is_little Big = false

-- an int or a long whose alignment is at least its size: it lies in one word
abbrev pub can_update : ValueSpec → Bool
can_update v = is_int_or_long v.kind && nat_le (width_of v.kind) v.alignment

-- a long that fills a word
abbrev pub fills_word : ValueSpec → Bool
fills_word v = is_long v.kind && nat_le 8 v.alignment

-- a long whose bytes are a word's, in the word's order
abbrev pub is_word : ValueSpec → Bool
is_word v = fills_word v && is_little v.order

-- ---- the tests, one behind the other: an answer, or the refusal in its place

abbrev pub if_supported : Bool → Result ℕ Refusal → Result ℕ Refusal
if_supported supported found = if supported then found else Err Unsupported

-- for admitted indices; else the first that isn't, counted from k
abbrev pub if_admitted : ℕ → List Dim → List ℕ → Result ℕ Refusal → Result ℕ Refusal
if_admitted k [] is found = found
if_admitted k (d ∷ ds) [] found = found
if_admitted k (d ∷ ds) (i ∷ is) found =
    if nat_lt i d.bound then if_admitted (k + 1) ds is found else Err (IndexOut k)

abbrev pub if_writable : Region → Result ℕ Refusal → Result ℕ Refusal
if_writable r found = if r.read_only then Err ReadOnly else found

-- where the whole root fits at the base, and the base's place is a multiple of the root's alignment
abbrev pub if_rooted : ℕ → Resolution → Region → Result ℕ Refusal → Result ℕ Refusal
if_rooted base h r = if_placed base h.root_size h.root_alignment r.first r.size

-- ---- where the value stands

-- where the root stands, or why it can't
abbrev pub root_place : ℕ → Resolution → Region → Result ℕ Refusal
root_place base h r = if_rooted base h r (Ok (r.first + base))

-- the root lies in the region at this place, aligned
pub record RootStands (h : Resolution) (r : Region) (place : ℕ) : Type 0 where
  pub inside : place + h.root_size ≤ r.first + r.size
  pub small : place + h.root_size ≤ 2 ^ 40
  pub aligned : place % h.root_alignment ≡ 0

-- the value does
pub record ValueStands (h : Resolution) (r : Region) (place : ℕ) : Type 0 where
  pub inside : place + width_of h.value.kind ≤ r.first + r.size
  pub small : place + width_of h.value.kind ≤ 2 ^ 40
  pub power : is_power_of_two h.value.alignment ≡ true
  pub aligned : place % h.value.alignment ≡ 0

-- the first byte of the value that the path comes to with these indices, the root standing at the base
abbrev pub value_place : ℕ → List ℕ → Resolution → Region → ℕ
value_place base is h r = r.first + base + offset_at h.offset h.dims is

-- for a call that reads
abbrev pub place_of : ℕ → List ℕ → Resolution → Region → Result ℕ Refusal
place_of base is h r = if_admitted 0 h.dims is (if_rooted base h r (Ok (value_place base is h r)))

-- for a call that writes
abbrev pub writable_place_of : ℕ → List ℕ → Resolution → Region → Result ℕ Refusal
writable_place_of base is h r =
    if_admitted 0 h.dims is (if_writable r (if_rooted base h r (Ok (value_place base is h r))))

-- for a call that works on such values alone
abbrev pub update_place_of : (ValueSpec → Bool) → ℕ → List ℕ → Resolution → Region → Result ℕ Refusal
update_place_of works_on base is h r = if_supported (works_on h.value) (writable_place_of base is h r)

-- what a call that works where `supported` says finds: where the value stands, or its refusal
pub record FindsWhere (supported : Bool) (base : ℕ) (is : List ℕ) (h : Resolution) (r : Region) (found : Result ℕ Refusal) : Type 0 where
  pub place : found ≡ if_supported supported (writable_place_of base is h r)
  pub stands : IfOk found (ValueStands h r)

-- whether a call that works on such values works on this one
abbrev pub supports : Support → ValueSpec → Bool
supports Number v = can_update v
supports support.Long v = fills_word v
supports Word v = is_word v

-- the bytes of such a value at the place lie in one word, which those of a long fill
abbrev pub Lies : Support → ValueSpec → ℕ → Type 0
Lies Number v place = (1 ≤ width_of v.kind) × (place % 8 + width_of v.kind ≤ 8)
Lies _ v place = (width_of v.kind ≡ 8) × (place % 8 + 8 ≤ 8)
