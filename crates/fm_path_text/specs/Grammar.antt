-- The texts of paths, and what a text that is none begins.
use Rattle.std.{specs.{Prelude.{◌≡◌, ℤ, pos, negsuc, ℕ, ◌^◌, ◌≤◌, List, [], ◌∷◌, ◌++◌, length, codes, decimal}, Fmt.{signed_decimal}}, proofs.Common.{suc}}
use Rattle.std.specs.List.{AllByRecursion}
use Rattle.fm_base.specs.declared.refusal.Refusal.{Refusal}
use Rattle.fm_path_text.specs.declared.step.PathStep.{PathStep, TheVariants.{Name, Group, At, Each, EachFrom}}
use Rattle.fm_layout.specs.Name.{IsName}
use Rattle.fm_path_text.specs.Language as language

-- the greatest number of a path's text, and the most pieces
abbrev pub most_number : ℕ
most_number = 2 ^ 40

abbrev pub most_pieces : ℕ
most_pieces = 64

-- the piece that writes a step; a number has no leading zero
abbrev pub piece_of : PathStep → List ℕ
piece_of (Name name) = codes "." ++ name
piece_of (Group n) = codes ".#" ++ decimal n
piece_of (At n) = codes "[" ++ decimal n ++ codes "]"
piece_of Each = codes "[]"
piece_of (EachFrom f s) = codes "[" ++ decimal f ++ (codes ":" ++ signed_decimal s ++ codes "]")

abbrev pub pieces_of : List PathStep → List ℕ
pieces_of [] = []
pieces_of (p ∷ ps) = piece_of p ++ pieces_of ps

-- the text of a path: . alone is the layout itself
abbrev pub path_text : List PathStep → List ℕ
path_text [] = codes "."
path_text (p ∷ ps) = pieces_of (p ∷ ps)

-- a number without its sign
abbrev pub magnitude : ℤ → ℕ
magnitude (pos n) = n
magnitude (negsuc n) = suc n

-- a step that a piece may write
abbrev pub HasPiece : PathStep → Type 0
HasPiece (Name name) = IsName name
HasPiece (Group n) = n ≤ most_number
HasPiece (At n) = n ≤ most_number
HasPiece Each = Unit {0}
HasPiece (EachFrom f s) = (f ≤ most_number) × (magnitude s ≤ most_number)

-- a path that has a text
pub record IsPath (path : List PathStep) : Type 0 where
  pub each : AllByRecursion HasPiece path
  pub short : length path ≤ most_pieces

-- the text is that of this path, and of no other
pub record IsTextOf (text : List ℕ) (path : List PathStep) : Type 0 where
  pub is_path : IsPath path
  pub spelled : text ≡ path_text path
  pub only : (other : List PathStep) → IsPath other → text ≡ path_text other → path ≡ other

-- some path's text begins so
abbrev pub Begins : List ℕ → Type 0
Begins = language.Begins IsPath path_text

-- what reading a path's text may answer in place of the path
abbrev pub IsNoPath : List ℕ → Refusal → Type 0
IsNoPath = language.IsNoText IsPath path_text
