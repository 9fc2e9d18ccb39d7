-- The elements of a segment: its consecutive slices of one size (`elements`).
use Rattle.std.specs.{Prelude.{ℕ, ◌+◌, ◌*◌, ◌/◌, ◌%◌, ◌≤◌, Result, Ok, Err, List, map, if◌then◌else◌, nat_eq}, List.{range_with_len}}
use Rattle.fm_base.specs.declared.refusal.Refusal.{Refusal, TheVariants.{NoSize, Ragged, ElementRagged, Misaligned}}
use Rattle.fm_layout.specs.{Tree.{Tree, alignment_of}, Size.{size_of}}
use Rattle.fm_segment.specs.Region.{Region, part_of, EndsByLimit}

-- element i, where each has this size
abbrev pub element_of : ℕ → Region → ℕ → Region
element_of size r i = part_of (i * size) size r

-- so many elements from an index on
abbrev pub elements_from : ℕ → ℕ → ℕ → Region → List Region
elements_from i n size r = map (element_of size r) (range_with_len i n)

-- they have bytes, all in the region
pub record HoldsElements (i n size : ℕ) (r : Region) : Type 0 where
  pub some : 1 ≤ size
  pub inside : (i + n) * size ≤ r.size
  pub ends : EndsByLimit r.first r.size

-- the elements of a layout, or the first refusal that applies
abbrev pub elements_of : Tree → Region → Result (List Region) Refusal
elements_of t r =
    if nat_eq (size_of t) 0 then Err NoSize
    else (if nat_eq (r.size % size_of t) 0
    then (if nat_eq (size_of t % alignment_of t) 0
    then (if nat_eq (r.first % alignment_of t) 0
    then Ok (elements_from 0 (r.size / size_of t) (size_of t) r)
    else Err Misaligned)
    else Err ElementRagged)
    else Err (Ragged (r.size % size_of t)))
