-- Acts on runs of bytes: piece by piece, where a piece is a longest run of bytes that lies in one word, of each side where there are two.
use Rattle.std.specs.Prelude.{◌≡◌, ℕ, ◌+◌, ◌-◌, ◌/◌, ◌%◌, ◌<◌, List, [], ◌∷◌, ◌++◌, length, Option, Some, None}
use Rattle.fm_base.specs.declared.{arena_id.ArenaId.{ArenaId}}
use Rattle.fm_base.specs.{Calls.{Read, Found}, Visits.{Acts, piece_width}}
use Rattle.fm_base_bytes.specs.Bytes.{bytes_of, number_of, lane}
use Rattle.fm_segment_access.specs.Pieces.{PutsBytes}
use Rattle.fm_segment_copies.specs.declared.side.{Side.{Side}, Piece.{Piece}, Way.{Way, TheVariants.{Up}}}
use Rattle.fm_segment_copies.specs.{Sides.{IsWay, next_piece}, Comparisons.{DiffersAt, IsDifference}}

-- so many bytes from the place on are a piece, where so many are behind them
pub record IsPiece (place width behind : ℕ) : Type 0 where
  pub some : 0 < width
  pub longest : width ≡ piece_width place (place + (width + behind))

-- ---- reading

-- A Read of each piece, the lowest first: they find these bytes from the place on
pub data GetsFrom (id : ArenaId) : ℕ → List ℕ → Acts → Type 0 where
  none : (place : ℕ) → GetsFrom id place [] []
  more : (place width word : ℕ) (rest : List ℕ) (acts : Acts) → IsPiece place width (length rest) → GetsFrom id (place + width) rest acts
      → GetsFrom id place (bytes_of width (lane word (place % 8) width) ++ rest) ((Read id (place / 8), Found word) ∷ acts)

-- so many bytes from the place on are read, and x is what they mean
pub record GetsAs {X : Type 0} (mean : List ℕ → X) (id : ArenaId) (place width : ℕ) (x : X) (acts : Acts) : Type 0 where
  pub bytes : List ℕ
  pub gets : GetsFrom id place bytes acts
  pub count : length bytes ≡ width
  pub value : x ≡ mean bytes

-- ---- putting

-- Each piece is put, the lowest first: a whole word by a Write, fewer bytes by tries
pub data PutsFrom (id : ArenaId) : ℕ → List ℕ → Acts → Type 0 where
  none : (place : ℕ) → PutsFrom id place [] []
  more : (place : ℕ) (first rest : List ℕ) (acts later : Acts) → IsPiece place (length first) (length rest)
      → PutsBytes id place (length first) (number_of first) acts → PutsFrom id (place + length first) rest later
      → PutsFrom id place (first ++ rest) (acts ++ later)

-- ---- two ranges

-- a Read of the piece of a side
abbrev pub reads_of : Side → Piece → ℕ → Acts → Acts
reads_of a p word acts = (Read a.arena ((a.at + p.offset) / 8), Found word) ∷ acts

-- the bytes of the piece in a word of the side
abbrev pub part_of : Side → Piece → ℕ → ℕ
part_of a p word = lane word ((a.at + p.offset) % 8) p.width

module _ (a b : Side) (p : Piece) where
  -- the piece is read, and then put
  pub record CopiesPiece (acts : Acts) : Type 0 where
    pub word : ℕ
    pub putting : Acts
    pub puts : PutsBytes b.arena (b.at + p.offset) p.width (part_of a p word) putting
    pub are : acts ≡ reads_of a p word putting

  -- the piece is read of both; `found` is the first byte in which they differ
  pub record ComparesPiece (found : Option ℕ) (acts : Acts) : Type 0 where
    pub v : ℕ
    pub w : ℕ
    pub answer : IsDifference p.width (part_of a p v) (part_of b p w) found
    pub are : acts ≡ reads_of a p v (reads_of b p w [])

module _ (a b : Side) (count : ℕ) where
  -- of `left` bytes that are left to be copied, each piece is read, and then put
  pub data CopiesFrom (way : Way) : ℕ → Acts → Type 0 where
    none : CopiesFrom way 0 []
    more : (left word : ℕ) (acts later : Acts) → 0 < left
        → PutsBytes b.arena (b.at + (next_piece way a b count left).offset) (next_piece way a b count left).width
        (part_of a (next_piece way a b count left) word) acts
        → CopiesFrom way (left - (next_piece way a b count left).width) later
        → CopiesFrom way left (reads_of a (next_piece way a b count left) word (acts ++ later))

  -- inside one arena to a higher place the highest piece comes first, else the lowest
  pub record Copies (acts : Acts) : Type 0 where
    pub way : Way
    pub is_way : IsWay a b way
    pub acts_are : CopiesFrom way count acts

  -- of `left` bytes that are left to be compared, each piece of a is read, and then that of b, up to the first that differs
  pub data ComparesFrom : ℕ → Option ℕ → Acts → Type 0 where
    none : ComparesFrom 0 None []
    agrees : (left v w : ℕ) (found : Option ℕ) (later : Acts) → 0 < left
        → part_of a (next_piece Up a b count left) v ≡ part_of b (next_piece Up a b count left) w
        → ComparesFrom (left - (next_piece Up a b count left).width) found later
        → ComparesFrom left found (reads_of a (next_piece Up a b count left) v (reads_of b (next_piece Up a b count left) w later))
    differs : (left v w at : ℕ) → 0 < left
        → DiffersAt (next_piece Up a b count left).width (part_of a (next_piece Up a b count left) v) (part_of b (next_piece Up a b count left) w) at
        → ComparesFrom left (Some ((next_piece Up a b count left).offset + at))
        (reads_of a (next_piece Up a b count left) v (reads_of b (next_piece Up a b count left) w []))
