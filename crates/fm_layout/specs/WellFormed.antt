-- Which layouts are well formed.
use Rattle.std.specs.{Prelude.{◌≡◌, ℕ, ◌+◌, ◌%◌, ◌≤◌, ◌^◌}, Int.{IsPowerOfTwo}}
use Rattle.fm_layout.specs.{Tree.{Tree, Trees, Value, Padding, Sequence, Struct, Union, NoMore, More, alignment_of}, Size.{size_of, least_of}}

-- the greatest size and the greatest alignment
abbrev pub limit : ℕ
limit = 2 ^ 40

-- the size and the alignment of a layout are as they must be
pub record IsFit (t : Tree) : Type 0 where
  pub power : IsPowerOfTwo (alignment_of t)
  pub least : least_of t ≤ alignment_of t
  pub greatest : alignment_of t ≤ limit
  pub size : size_of t ≤ limit

abbrev mutual
  pub IsWellFormed : Tree → Type 0
  IsWellFormed (Value k o l) = IsFit (Value k o l)
  IsWellFormed (Padding n l) = IsFit (Padding n l) × (l.alignment ≡ 1) × (1 ≤ n)
  IsWellFormed (Sequence n e l) = IsFit (Sequence n e l) × (size_of e % alignment_of e ≡ 0) × IsWellFormed e
  IsWellFormed (Struct ms l) = IsFit (Struct ms l) × AreLaidOut 0 ms
  IsWellFormed (Union ms l) = IsFit (Union ms l) × AreWellFormed ms

  -- members that begin at this offset, one after the other, each at a multiple of its alignment
  pub AreLaidOut : ℕ → Trees → Type 0
  AreLaidOut at NoMore = Unit {0}
  AreLaidOut at (More t ts) = (at % alignment_of t ≡ 0) × IsWellFormed t × AreLaidOut (at + size_of t) ts

  pub AreWellFormed : Trees → Type 0
  AreWellFormed NoMore = Unit {0}
  AreWellFormed (More t ts) = IsWellFormed t × AreWellFormed ts
