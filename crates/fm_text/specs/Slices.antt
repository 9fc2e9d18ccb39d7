-- The slice that an allocator gives next (`SegmentAllocator.slicingAllocator`, Java SE 22).
use Rattle.std.specs.{Prelude.{◌≡◌, ℕ, ◌+◌, ◌-◌, ◌%◌, ◌≤◌, Result, Ok, Err, if◌then◌else◌}, Int.{is_power_of_two}}
use Rattle.fm_base.specs.{declared.refusal.Refusal.{Refusal, TheVariants.{BadAlignment}}, Machine.{rounded_up}}
use Rattle.fm_segment.specs.{Region.{Region}, Slices.{slice_of}}

-- so many bytes of the segment are behind
pub record Slicing : Type 0 where
  pub segment : Region
  pub used : ℕ

abbrev pub slicing : Region → ℕ → Slicing
slicing s used = record { segment = s; used = used }

-- where the next slice begins: the least multiple of the alignment that isn't behind, as an offset
abbrev pub next_offset : Slicing → ℕ → ℕ
next_offset x align = rounded_up (x.segment.first + x.used) align - x.segment.first

-- the next slice, or the first refusal that applies
abbrev pub next_slice : Slicing → ℕ → ℕ → Result Region Refusal
next_slice x size align = if is_power_of_two align then slice_of (next_offset x align) size x.segment else Err BadAlignment

-- how many bytes are behind after this answer
abbrev pub used_after : Slicing → Result Region Refusal → ℕ
used_after x (Ok r) = r.first + r.size - x.segment.first
used_after x (Err e) = x.used

-- so many bytes of the segment, none of which is behind, at a multiple of this alignment
pub record LiesFrom (x : Slicing) (size align : ℕ) (r : Region) : Type 0 where
  pub arena : r.arena ≡ x.segment.arena
  pub bytes : r.size ≡ size
  pub behind : x.segment.first + x.used ≤ r.first
  pub inside : r.first + r.size ≤ x.segment.first + x.segment.size
  pub aligned : r.first % align ≡ 0

-- of `allocate`
pub record Allocates (old new : Slicing) (size align : ℕ) (result : Result Region Refusal) : Type 0 where
  pub answer : result ≡ next_slice old size align
  pub segment : new.segment ≡ old.segment
  pub used : new.used ≡ used_after old result
