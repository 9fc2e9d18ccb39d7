-- The text of a layout's values, from the texts of the path and the dims that lead to it.
use Rattle.std.specs.{declared.string.String.{String}, String.{string_bytes}, Prelude.{◌≡◌, ℕ, ◌+◌, List, [], ◌∷◌, ◌++◌, codes}}
use Rattle.fm_layout.specs.{Tree.{Tree, Trees, Value, Padding, Sequence, Struct, Union, NoMore, More}, Size.{size_of, member_offset}}
use Rattle.fm_path_text.specs.Grammar.{piece_of}
use Rattle.fm_path.specs.Listing.{value_text, dim_text, step_to}

-- the text grew by these bytes
abbrev pub Adds : {Z : Type 0} → String Z → String Z → List ℕ → Type 0
Adds old new bytes = string_bytes new ≡ string_bytes old ++ bytes

-- a path that goes on from another by this piece
abbrev pub Goes : {Z : Type 0} → List ℕ → List ℕ → String Z → Type 0
Goes path piece longer = string_bytes longer ≡ path ++ piece

-- the layout's own path is a dot
abbrev pub shown : List ℕ → List ℕ
shown [] = codes "."
shown (b ∷ bs) = b ∷ bs

abbrev pub longer_dims : List ℕ → ℕ → ℕ → List ℕ
longer_dims dims stride bound = dims ++ dim_text stride bound

abbrev mutual
  pub listed : List ℕ → ℕ → List ℕ → Tree → List ℕ
  listed path at dims (Value k o l) = value_text (shown path) at k o dims
  listed path at dims (Padding n l) = []
  listed path at dims (Sequence n e l) = listed (path ++ codes "[]") at (longer_dims dims (size_of e) n) e
  listed path at dims (Struct ms l) = listed_members path at dims (Struct ms l) 0 ms
  listed path at dims (Union ms l) = listed_members path at dims (Union ms l) 0 ms

  pub listed_members : List ℕ → ℕ → List ℕ → Tree → ℕ → Trees → List ℕ
  listed_members path at dims group i NoMore = []
  listed_members path at dims group i (More t ts) =
      listed (path ++ piece_of (step_to group i t)) (at + member_offset i group) dims t
      ++ listed_members path at dims group (i + 1) ts

-- the bytes from a member of a group to the next one
abbrev pub extent_of : Tree → Tree → ℕ
extent_of (Struct ms l) member = size_of member
extent_of group member = 0
