-- What a source of files tells of its files, and what a read of one may answer.
use Rattle.std.specs.Prelude.{◌≡◌, ◌≢◌, ℕ, ◌+◌, ◌-◌, ◌≤◌, ◌<◌, min, List, [], map, length, take, drop, Option, None, MatchOption, IfSome, IsSomeAnd, String, Vec, string_bytes}
use Rattle.std.specs.{Ordering.{nat_cmp}, Cmp.Lexicographic.{slice_cmp}, FinMap.{FinMap, from_entries, get}, declared.alloc.Global.{Global}}
use Rattle.fm_io.specs.declared.files.Piece.{Piece, TheVariants.{Got, End, Missing}}

-- the bytes under each name that is there
abbrev pub Contents : Type 0
Contents = FinMap (slice_cmp nat_cmp) (List ℕ)

-- the bytes under a name, where it is there
abbrev pub file_of : Contents → List ℕ → Option (List ℕ)
file_of contents name = get contents name

-- What a list of names and bytes holds: where a name stands twice, the first counts.
abbrev pub contents_of : List (String Global × Vec ℕ Global) → Contents
contents_of files = from_entries (map (λ f. (string_bytes f.0, f.1.items)) files)

-- a piece has at least one byte, and no more than there was room for
abbrev pub HasBytes : ℕ → Piece → Type 0
HasBytes room (Got n) = (0 < n) × (n ≤ room)
HasBytes room End = Unit {0}
HasBytes room Missing = Unit {0}

-- what the piece read at a place says of a file with these bytes
abbrev pub IsPieceOf : List ℕ → ℕ → List ℕ → Piece → Type 0
IsPieceOf file at buffer (Got n) = take n buffer ≡ take n (drop at file)
IsPieceOf file at buffer End = length file ≤ at
IsPieceOf file at buffer Missing = ⊥

-- what a piece says of the contents: there is no such name, or it is a piece of that file
abbrev pub TellsPiece : Contents → List ℕ → ℕ → List ℕ → Piece → Type 0
TellsPiece contents name at buffer piece =
    MatchOption (file_of contents name) (piece ≡ Missing) (λ file. IsPieceOf file at buffer piece)

-- a piece has as many bytes as the file has from the place on, but no more than this
abbrev pub IsLongest : List ℕ → ℕ → ℕ → Piece → Type 0
IsLongest file at most (Got n) = n ≡ min (length file - at) most
IsLongest file at most End = Unit {0}
IsLongest file at most Missing = Unit {0}

-- likewise of the file of that name, where it is there
abbrev pub TellsLongest : Contents → List ℕ → ℕ → ℕ → Piece → Type 0
TellsLongest contents name at most piece = IfSome (file_of contents name) (λ file. IsLongest file at most piece)

-- the files tell that these are bytes of the file of that name, if there are any of them
abbrev pub AreBytesFrom : Option Contents → List ℕ → ℕ → List ℕ → Type 0
AreBytesFrom told name at bytes = IfSome told (λ contents.
    MatchOption (file_of contents name) (bytes ≡ []) (λ file. bytes ≡ take (length bytes) (drop at file)))

-- the files tell that the file of that name is there, and ends at or before the place
abbrev pub EndsBefore : Option Contents → List ℕ → ℕ → Type 0
EndsBefore told name place = IfSome told (λ contents.
    IsSomeAnd (file_of contents name) (λ file. length file ≤ place))

-- the files tell that there is no file of that name
abbrev pub IsAbsent : Option Contents → List ℕ → Type 0
IsAbsent told name = IfSome told (λ contents. file_of contents name ≡ None)

-- the first so many bytes of a buffer with this room are those of the file from the place on, and fewer than the room only where the file ends
pub record IsFilled (told : Option Contents) (name : List ℕ) (at room : ℕ) (buffer : List ℕ) (n : ℕ) : Type 0 where
  pub count : n ≤ room
  pub bytes : AreBytesFrom told name at (take n buffer)
  pub ended : n ≢ room → EndsBefore told name (at + n)
