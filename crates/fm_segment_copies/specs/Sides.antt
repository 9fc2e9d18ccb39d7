-- Two ranges of bytes, as long as each other, and the pieces in which they are gone through:
-- a piece is a longest run of bytes that lies in one word of each side.
use Rattle.std.specs.Prelude.{◌≡◌, ℕ, ◌+◌, ◌-◌, ◌%◌, ◌<◌, ◌≤◌, List, [], ◌++◌, Result, Ok, Err}
use Rattle.fm_base.specs.declared.{caller.Caller.{Caller}, arena_id.ArenaId.{ArenaId}, refusal.Refusal.{Refusal, TheVariants.{Closed, WrongThread}}}
use Rattle.fm_base.specs.{Arenas.{MayUse}, Calls.{Entry}, Visits.{refused_visit, first_width, last_width}}
use Rattle.fm_segment_access.specs.Pieces.{ReadsPiece}
use Rattle.fm_segment_copies.specs.declared.side.{Side.{Side}, Piece.{Piece}, Way.{Way, TheVariants.{Up, Down}}}

abbrev pub side : ArenaId → ℕ → Side
side arena at = record { arena = arena; at = at }

abbrev pub MayUseBoth : Caller → Side → Side → Type 0
MayUseBoth c a b = MayUse a.arena c × MayUse b.arena c

-- there is a byte, and a side is confined to another caller
abbrev pub IsForOthers : Caller → Side → Side → ℕ → Type 0
IsForOthers c a b count = (0 < count) × ¬ (MayUseBoth c a b)

-- a piece has a byte or more, in one word of each side
pub record IsPieceAt (a b : Side) (p : Piece) : Type 0 where
  pub some : 1 ≤ p.width
  pub within_source : (a.at + p.offset) % 8 + p.width ≤ 8
  pub within_target : (b.at + p.offset) % 8 + p.width ≤ 8

-- it is of the `left` bytes that are left
pub record IsPieceOf (a b : Side) (count left : ℕ) (p : Piece) : Type 0 where
  pub at : IsPieceAt a b p
  pub room : p.width ≤ left
  pub inside : p.offset + p.width ≤ count

-- the next piece of `count` bytes, of which `left` are left
abbrev pub next_piece : Way → Side → Side → ℕ → ℕ → Piece
next_piece Up a b count left = record {
  offset = count - left;
  width = first_width (a.at + (count - left)) (b.at + (count - left)) left;
}
next_piece Down a b count left = record {
  offset = left - last_width a.at b.at left;
  width = last_width a.at b.at left;
}

-- inside one arena to a higher place the highest piece comes first, else the lowest
abbrev pub IsWay : Side → Side → Way → Type 0
IsWay a b Down = (a.arena ≡ b.arena) × (a.at < b.at)
IsWay a b Up = ¬ ((a.arena ≡ b.arena) × (a.at < b.at))

-- a visit reads these bytes of side a
abbrev pub ReadsAt : Caller → Side → Piece → ℕ → List Entry → Type 0
ReadsAt c a p v own = ReadsPiece c a.arena (a.at + p.offset) p.width v own

-- the visit to a was refused, or the one to b after a's bytes were read
pub data StopsAt (c : Caller) (a b : Side) (p : Piece) : List Entry → Type 0 where
  first : StopsAt c a b p (refused_visit c a.arena)
  second : (v : ℕ) (own : List Entry) → ReadsAt c a p v own → StopsAt c a b p (own ++ refused_visit c b.arena)

-- a visit to each side, or what a refused one leaves
abbrev pub DoesOnPiece : {X : Type 0} → Caller → Side → Side → Piece → (X → List Entry → Type 0) → Result X Refusal → List Entry → Type 0
DoesOnPiece c a b p Answers (Ok x) own = Answers x own
DoesOnPiece c a b p Answers (Err Closed) own = StopsAt c a b p own
DoesOnPiece c a b p Answers (Err r) own = ⊥

-- of `left` bytes the next piece was gone through, as it is said
pub record GoesOn (a b : Side) (count : ℕ) (way : Way) (Does : Piece → List Entry → Type 0) (left : ℕ) (own : List Entry) (left_then : ℕ) : Type 0 where
  pub more : 0 < left
  pub piece : Does (next_piece way a b count left) own
  pub then : left_then ≡ left - (next_piece way a b count left).width

-- A call on `count` bytes of both sides, and the refusals in the order of the checks; `Stops` is up to a visit that was
-- refused
abbrev pub DoesOnBoth : {X : Type 0} → Caller → Side → Side → ℕ → (X → List Entry → Type 0) → (List Entry → Type 0) → Result X Refusal → List Entry → Type 0
DoesOnBoth c a b count Answers Stops (Ok x) own = Answers x own
DoesOnBoth c a b count Answers Stops (Err WrongThread) own = IsForOthers c a b count × (own ≡ [])
DoesOnBoth c a b count Answers Stops (Err Closed) own = Stops own
DoesOnBoth c a b count Answers Stops (Err r) own = ⊥
