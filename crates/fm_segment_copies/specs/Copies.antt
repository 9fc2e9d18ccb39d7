-- A copy from one range to another: piece by piece, each read and then put.
use Rattle.std.specs.Prelude.{◌≡◌, ℕ, ◌+◌, ◌<◌, Bool, true, false, List, [], ◌++◌, Result}
use Rattle.fm_base.specs.{declared.{caller.Caller.{Caller}, refusal.Refusal.{Refusal}}, Calls.{Entry}, Visits.{Run}}
use Rattle.fm_segment_access.specs.Pieces.{PutsPiece}
use Rattle.fm_segment_copies.specs.declared.side.{Side.{Side}, Piece.{Piece}, Way.{Way}}
use Rattle.fm_segment_copies.specs.Sides.{MayUseBoth, IsWay, next_piece, ReadsAt, StopsAt, DoesOnPiece, GoesOn, DoesOnBoth}

-- a visit reads the piece, and then one puts what was read
pub record CopiesPiece (c : Caller) (a b : Side) (p : Piece) (own : List Entry) : Type 0 where
  pub v : ℕ
  pub reading : List Entry
  pub putting : List Entry
  pub reads : ReadsAt c a p v reading
  pub puts : PutsPiece c b.arena (b.at + p.offset) p.width v putting
  pub visits : own ≡ reading ++ putting

abbrev pub DoesCopyPiece : Caller → Side → Side → Piece → Result (Unit {0}) Refusal → List Entry → Type 0
DoesCopyPiece c a b p = DoesOnPiece c a b p (λ u own. CopiesPiece c a b p own)

-- a copy of `count` bytes, one way
module _ (c : Caller) (a b : Side) (count : ℕ) (way : Way) where
  -- of `left` bytes the next piece was copied
  abbrev pub CopiesOn : ℕ → List Entry → ℕ → Type 0
  CopiesOn = GoesOn a b count way (CopiesPiece c a b)

  -- true: all are copied. false: a visit of the next piece was refused
  abbrev pub EndsCopy : ℕ → List Entry → Bool → Type 0
  EndsCopy left own true = (left ≡ 0) × (own ≡ [])
  EndsCopy left own false = (0 < left) × StopsAt c a b (next_piece way a b count left) own

-- the visits of a copy, whole or up to a visit that was refused
pub record Copies (c : Caller) (a b : Side) (count : ℕ) (own : List Entry) (whole : Bool) : Type 0 where
  pub may_use : 0 < count → MayUseBoth c a b
  pub way : Way
  pub is_way : IsWay a b way
  pub visits : Run (CopiesOn c a b count way) (EndsCopy c a b count way) count own whole

abbrev pub DoesCopy : Caller → Side → Side → ℕ → Result (Unit {0}) Refusal → List Entry → Type 0
DoesCopy c a b count = DoesOnBoth c a b count (λ u own. Copies c a b count own true) (λ own. Copies c a b count own false)
