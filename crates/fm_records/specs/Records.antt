-- The records of a run of bytes.
use Rattle.std.{specs.Prelude.{ℕ, ◌/◌, List, [], ◌∷◌, length, take, drop}, proofs.Common.{zero, suc}}

-- the first `count` consecutive pieces of `size` bytes
abbrev pub pieces : ℕ → ℕ → List ℕ → List (List ℕ)
pieces zero size bytes = []
pieces (suc count) size bytes = take size bytes ∷ pieces count size (drop size bytes)

-- the records of `size` bytes; what is left behind the last is none
abbrev pub records : ℕ → List ℕ → List (List ℕ)
records size bytes = pieces (length bytes / size) size bytes
