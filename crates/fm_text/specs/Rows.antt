-- Where the slices of one allocator lie, over every list of calls.
use Rattle.std.specs.{Prelude.{ℕ, ◌+◌, ◌-◌, List, [], ◌∷◌, Ok, Err}, List.{AllPairs}}
use Rattle.fm_base.specs.declared.refusal.Refusal.{Refusal}
use Rattle.fm_segment.specs.{Overlap.{AreApart}, Region.{Region}}
use Rattle.fm_text.specs.Slices.{Slicing, slicing, LiesFrom, Allocates}

-- a slice, with the size and the alignment that were asked for
pub record Slice : Type 0 where
  pub region : Region
  pub size : ℕ
  pub align : ℕ

abbrev pub slice : Region → ℕ → ℕ → Slice
slice r size align = record { region = r; size = size; align = align }

-- calls of `allocate` in a row, in which these slices were given
pub data Gives : Slicing → List Slice → Slicing → Type 0 where
  no_call : {x : Slicing} → Gives x [] x
  given : {x end : Slicing} {rest : List Slice} (y : Slicing) (size align : ℕ) (r : Region) → Allocates x y size align (Ok r) → Gives y rest end
      → Gives x (slice r size align ∷ rest) end
  not_given : {x end : Slicing} {rest : List Slice} (y : Slicing) (size align : ℕ) (e : Refusal) → Allocates x y size align (Err e) → Gives y rest end
      → Gives x rest end

-- each lies in the segment, where so many bytes are behind, at a multiple of its alignment; and the others lie so behind it
abbrev pub LieInRow : Region → ℕ → List Slice → Type 0
LieInRow s used [] = Unit {0}
LieInRow s used (x ∷ xs) = LiesFrom (slicing s used) x.size x.align x.region × LieInRow s (x.region.first + x.region.size - s.first) xs

abbrev pub LieInRows : Type 0
LieInRows = (x end : Slicing) (xs : List Slice) → Gives x xs end → LieInRow x.segment x.used xs

-- no two share a byte
abbrev pub LieApart : Type 0
LieApart = (x end : Slicing) (xs : List Slice) → Gives x xs end → AllPairs (λ a b. AreApart a.region b.region) xs
