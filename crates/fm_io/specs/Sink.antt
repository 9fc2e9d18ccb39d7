-- What contracts see of a sink, and of the bytes that it took.
use Rattle.std.specs.{Prelude.{◌≡◌, ℕ, ◌≤◌, List, ◌++◌, length, take, Option, Result, Ok, Err}, Option.{option_map}}
use Rattle.fm_io.specs.declared.fault.Fault.{Fault}

pub record SinkView : Type 0 where
  -- what was written, where it is told
  pub written : Option (List ℕ)
  -- how many writes failed
  pub faults : ℕ

-- where it tells what was written, these bytes were appended
abbrev pub Appends : Option (List ℕ) → Option (List ℕ) → List ℕ → Type 0
Appends old new bytes = new ≡ option_map (λ written. written ++ bytes) old

-- what a write leaves: the bytes that it took are appended, and none where it failed
abbrev pub TookPiece : Option (List ℕ) → Option (List ℕ) → List ℕ → Result ℕ Fault → Type 0
TookPiece old new piece (Ok n) = Appends old new (take n piece)
TookPiece old new piece (Err fault) = new ≡ old

-- a prefix of the bytes was appended, and no more
abbrev pub AppendsPrefix : Option (List ℕ) → Option (List ℕ) → List ℕ → Type 0
AppendsPrefix old new bytes = (n : ℕ) × (n ≤ length bytes) × Appends old new (take n bytes)
