-- The text of groups.
use Rattle.std.specs.{Prelude.{ℕ, ◌%◌, ◌^◌, List, ◌∷◌, [], ◌++◌, codes}, Fmt.{decimal, signed_decimal}, List.{flat_map}}
use Rattle.fm_group_lists.specs.Groups.{Group, total_of}

-- a number, a space and its count, in a line
abbrev pub group_text : Group → List ℕ
group_text g = signed_decimal g.0 ++ (codes " " ++ (decimal g.1 ++ 10 ∷ []))

abbrev pub total_text : ℕ → List ℕ
total_text total = codes "total " ++ (decimal total ++ 10 ∷ [])

-- a line for each of them, in their order, and behind them how many there are, modulo 2^64
abbrev pub groups_text : List Group → List ℕ
groups_text gs = flat_map group_text gs ++ total_text (total_of gs % 2 ^ 64)
