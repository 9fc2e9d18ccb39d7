-- What a comparison of segments does (`mismatch` of `MemorySegment`, Java SE 22), and why it is refused.
use Rattle.std.specs.Prelude.{◌≡◌, ℕ, ℤ, pos, negsuc, ◌==◌, min, Option, Some, None, Result, Ok, Err, if◌then◌else◌, List}
use Rattle.fm_base.specs.{declared.{caller.Caller.{Caller}, refusal.Refusal.{Refusal}}, Calls.{Entry}}
use Rattle.fm_segment_copies.specs.{Sides.{side}, Comparisons.{DoesCompare}, Learnt.{BothCause}}
use Rattle.fm_segment.specs.Region.{Region}

-- how many bytes are compared
abbrev pub common_size : Region → Region → ℕ
common_size a b = min a.size b.size

-- The offset of the first byte that differs. Where none of the common ones does, the smaller size,
-- or -1 where both are as large
abbrev pub mismatch_of : ℕ → ℕ → Option ℕ → ℤ
mismatch_of size other (Some offset) = pos offset
mismatch_of size other None = if size == other then negsuc 0 else pos (min size other)

abbrev pub DoesMismatch : Caller → Region → Region → Result ℤ Refusal → List Entry → Type 0
DoesMismatch c a b (Ok z) own =
    (found : Option ℕ)
    × DoesCompare c (side a.arena a.first) (side b.arena b.first) (common_size a b) (Ok found) own
    × (z ≡ mismatch_of a.size b.size found)
DoesMismatch c a b (Err r) own =
    DoesCompare c (side a.arena a.first) (side b.arena b.first) (common_size a b) (Err r) own

abbrev pub MismatchCause : Region → Region → Caller → Refusal → Type 0
MismatchCause a b = BothCause (side a.arena a.first) (side b.arena b.first) (common_size a b)
