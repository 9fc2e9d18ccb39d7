-- A file cut into chunks.
use Rattle.std.specs.{Prelude.{◌≡◌, ℕ, ◌+◌, ◌-◌, ◌*◌, ◌/◌, ◌<◌, ◌≤◌, List, [], ◌∷◌, length, ⊤}, List.{flat_map}}
use Rattle.fm_records.specs.Records.{pieces}

-- the most bytes of a file
abbrev pub stream_file_limit : ℕ
stream_file_limit = 1099511627776

-- the most bytes of a chunk, and so of a record
abbrev pub most_chunk : ℕ
most_chunk = 1048576

-- how many bytes a chunk of records of this size has: whole records, as many as fit
abbrev pub chunk_size : ℕ → ℕ
chunk_size size = most_chunk / size * size

-- bytes cut into runs of so many; the last one may be shorter
abbrev pub cut_in : ℕ → List ℕ → List (List ℕ)
cut_in most bytes = pieces ((length bytes + (most - 1)) / most) most bytes

-- the chunks of a file
abbrev pub chunks : ℕ → List ℕ → List (List ℕ)
chunks size bytes = cut_in (chunk_size size) bytes

-- ---- put together again

abbrev pub all_bytes : List (List ℕ) → List ℕ
all_bytes runs = flat_map (λ run. run) runs

-- each run has so many bytes, but for the last, which has at most so many and isn't empty
abbrev pub AreCut : ℕ → List (List ℕ) → Type 0
AreCut size [] = ⊤
AreCut size (run ∷ []) = (0 < length run) × (length run ≤ size)
AreCut size (run ∷ (next ∷ runs)) = (length run ≡ size) × AreCut size (next ∷ runs)
