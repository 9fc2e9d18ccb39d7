-- What slicing answers: a slice, or the first refusal that applies (`asSlice`).
use Rattle.std.specs.{Prelude.{ℕ, ◌+◌, ◌-◌, ◌%◌, Result, Ok, Err, if◌then◌else◌, nat_eq, nat_le}, Int.{is_power_of_two}}
use Rattle.fm_base.specs.declared.refusal.Refusal.{Refusal, TheVariants.{BadAlignment, Bounds, Misaligned}}
use Rattle.fm_segment.specs.Region.{Region, part_of}

-- so many bytes from an offset on
abbrev pub slice_of : ℕ → ℕ → Region → Result Region Refusal
slice_of offset size r = if nat_le (offset + size) r.size then Ok (part_of offset size r) else Err Bounds

-- all bytes from an offset on
abbrev pub rest_of : ℕ → Region → Result Region Refusal
rest_of offset r = if nat_le offset r.size then Ok (part_of offset (r.size - offset) r) else Err Bounds

-- so many bytes from an offset on, at a place of this alignment
abbrev pub aligned_slice_of : ℕ → ℕ → ℕ → Region → Result Region Refusal
aligned_slice_of offset size align r =
    if is_power_of_two align
    then (if nat_le (offset + size) r.size
    then (if nat_eq ((r.first + offset) % align) 0
    then Ok (part_of offset size r)
    else Err Misaligned)
    else Err Bounds)
    else Err BadAlignment
