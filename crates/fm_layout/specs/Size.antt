-- The sizes of layouts, their least alignments and where members stand, in bytes.
use Rattle.std.{specs.Prelude.{ℕ, ◌+◌, ◌*◌, max}, proofs.Common.{zero, suc}}
use Rattle.fm_lanes.specs.Kind.{width_of}
use Rattle.fm_layout.specs.Tree.{Tree, Trees, Value, Padding, Sequence, Struct, Union, NoMore, More, alignment_of}

abbrev mutual
  pub size_of : Tree → ℕ
  size_of (Value k o l) = width_of k
  size_of (Padding n l) = n
  size_of (Sequence n e l) = n * size_of e
  size_of (Struct ms l) = sum_of ms
  size_of (Union ms l) = greatest_of ms

  -- the sum of the sizes
  pub sum_of : Trees → ℕ
  sum_of NoMore = 0
  sum_of (More t ts) = size_of t + sum_of ts

  -- the greatest size, 0 where there is none
  pub greatest_of : Trees → ℕ
  greatest_of NoMore = 0
  greatest_of (More t ts) = max (size_of t) (greatest_of ts)

-- the greatest alignment, 1 where there is none
abbrev pub greatest_alignment : Trees → ℕ
greatest_alignment NoMore = 1
greatest_alignment (More t ts) = max (alignment_of t) (greatest_alignment ts)

-- the least alignment that a layout may have
abbrev pub least_of : Tree → ℕ
least_of (Value k o l) = 1
least_of (Padding n l) = 1
least_of (Sequence n e l) = alignment_of e
least_of (Struct ms l) = greatest_alignment ms
least_of (Union ms l) = greatest_alignment ms

-- the sum of the sizes of the members before member i
abbrev pub sum_before : ℕ → Trees → ℕ
sum_before i NoMore = 0
sum_before zero (More t ts) = 0
sum_before (suc i) (More t ts) = size_of t + sum_before i ts

-- the offset of member i: those of a struct stand one after the other, those of a union at the start
abbrev pub member_offset : ℕ → Tree → ℕ
member_offset i (Struct ms l) = sum_before i ms
member_offset i t = 0
