-- Two ranges compared piece by piece, the lowest place first, up to the first piece that differs.
use Rattle.std.specs.Prelude.{◌≡◌, ◌≢◌, ℕ, ◌+◌, ◌<◌, List, [], ◌++◌, Option, Some, None, Result}
use Rattle.fm_base.specs.{declared.{caller.Caller.{Caller}, refusal.Refusal.{Refusal}}, Calls.{Entry}, Visits.{Run}}
use Rattle.fm_base_bytes.specs.Bytes.{bytes_of, lane}
use Rattle.fm_segment_copies.specs.declared.side.{Side.{Side}, Piece.{Piece}, Way.TheVariants.{Up}}
use Rattle.fm_segment_copies.specs.Sides.{MayUseBoth, next_piece, ReadsAt, StopsAt, DoesOnPiece, GoesOn, DoesOnBoth}

-- byte `at` of v and w differs, and the bytes below it don't
pub record DiffersAt (width v w at : ℕ) : Type 0 where
  pub within : at < width
  pub below : bytes_of at v ≡ bytes_of at w
  pub differs : lane v at 1 ≢ lane w at 1

-- the lowest byte in which v and w differ
abbrev pub IsDifference : ℕ → ℕ → ℕ → Option ℕ → Type 0
IsDifference width v w None = v ≡ w
IsDifference width v w (Some at) = DiffersAt width v w at

-- a visit to a reads the piece, and then one to b; `found` is the first byte in which they differ
pub record ComparesPiece (c : Caller) (a b : Side) (p : Piece) (found : Option ℕ) (own : List Entry) : Type 0 where
  pub v : ℕ
  pub w : ℕ
  pub first : List Entry
  pub second : List Entry
  pub reads_first : ReadsAt c a p v first
  pub reads_second : ReadsAt c b p w second
  pub visits : own ≡ first ++ second
  pub answer : IsDifference p.width v w found

abbrev pub DoesComparePiece : Caller → Side → Side → Piece → Result (Option ℕ) Refusal → List Entry → Type 0
DoesComparePiece c a b p = DoesOnPiece c a b p (ComparesPiece c a b p)

-- a comparison of `count` bytes
module _ (c : Caller) (a b : Side) (count : ℕ) where
  -- of `left` bytes the next piece agrees
  abbrev pub AgreesOn : ℕ → List Entry → ℕ → Type 0
  AgreesOn = GoesOn a b count Up (λ p own. ComparesPiece c a b p None own)

  -- the next piece differs, first in the byte at this offset
  pub record DiffersNext (left : ℕ) (own : List Entry) (offset : ℕ) : Type 0 where
    pub more : 0 < left
    pub at : ℕ
    pub piece : ComparesPiece c a b (next_piece Up a b count left) (Some at) own
    pub offset_is : offset ≡ (next_piece Up a b count left).offset + at

  -- Some found: the answer. None: a visit of the next piece was refused
  abbrev pub EndsComparing : ℕ → List Entry → Option (Option ℕ) → Type 0
  EndsComparing left own (Some None) = (left ≡ 0) × (own ≡ [])
  EndsComparing left own (Some (Some offset)) = DiffersNext left own offset
  EndsComparing left own None = (0 < left) × StopsAt c a b (next_piece Up a b count left) own

-- the visits of a comparison, up to its answer or a visit that was refused
pub record Compares (c : Caller) (a b : Side) (count : ℕ) (own : List Entry) (answer : Option (Option ℕ)) : Type 0 where
  pub may_use : 0 < count → MayUseBoth c a b
  pub visits : Run (AgreesOn c a b count) (EndsComparing c a b count) count own answer

-- the offset of the first byte that differs, or None where all bytes agree
abbrev pub DoesCompare : Caller → Side → Side → ℕ → Result (Option ℕ) Refusal → List Entry → Type 0
DoesCompare c a b count = DoesOnBoth c a b count (λ found own. Compares c a b count own (Some found)) (λ own. Compares c a b count own None)
