-- The text of counts.
use Rattle.std.specs.{Prelude.{ℕ, ◌+◌, ◌%◌, ◌==◌, if◌then◌else◌, List, [], ◌∷◌, ◌++◌, codes, slice_index, sum, ℤ}, Fmt.{decimal, signed_decimal}}
use Rattle.std.specs.List.{flat_map, range_with_len}
use Rattle.fm_workers.specs.Counts.{number_of}

-- the places in the rising order of their numbers
abbrev pub rising : ℕ → ℕ
rising k = (k + 128) % 256

-- a number, a space and how often it comes, in a line; no line where it doesn't
abbrev pub count_text : ℤ → ℕ → List ℕ
count_text n count = if count == 0 then [] else signed_decimal n ++ (codes " " ++ (decimal count ++ 10 ∷ []))

abbrev pub place_text : List ℕ → ℕ → List ℕ
place_text counts place = count_text (number_of place) (slice_index counts place)

abbrev pub total_text : ℕ → List ℕ
total_text total = codes "total " ++ (decimal total ++ 10 ∷ [])

-- a line for each number that comes, in rising order, and behind them how many there are
abbrev pub counts_text : List ℕ → List ℕ
counts_text counts =
    flat_map (λ k. place_text counts (rising k)) (range_with_len 0 256) ++ total_text (sum counts)
