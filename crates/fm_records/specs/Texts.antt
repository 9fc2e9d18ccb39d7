-- The text of an answer: a line for each item.
use Rattle.std.specs.{Prelude.{ℕ, List, [], ◌∷◌, ◌++◌, codes, ℤ, Option, Some, None, ⊤}, Fmt.{decimal, signed_decimal}, List.{AllZip, flat_map}}
use Rattle.fm_records_query.specs.{Plan.{Plan}, declared.{fold.Fold.{Fold}, item.{Asked.{Asked}, Item.{Item}}}}
use Rattle.fm_records_query.specs.declared.fold.Fold.TheVariants as fold
use Rattle.fm_records_query.specs.declared.item.Asked.TheVariants as asked
use Rattle.fm_records.specs.declared.found.Found.{Found, TheVariants.{Count, Sum, Least, Greatest, Listed}}

-- a space and a number
abbrev pub number_text : ℤ → List ℕ
number_text n = codes " " ++ signed_decimal n

abbrev pub end_text : Option ℤ → List ℕ
end_text None = codes " none"
end_text (Some n) = number_text n

-- what stands behind an item's text
abbrev pub found_text : Found → List ℕ
found_text (Count n) = codes " " ++ decimal n
found_text (Sum n) = number_text n
found_text (Least n) = end_text n
found_text (Greatest n) = end_text n
found_text (Listed ns) = flat_map number_text ns

abbrev pub line_text : Item → Found → List ℕ
line_text item found = item.text ++ (found_text found ++ 10 ∷ [])

abbrev pub lines_text : List Item → List Found → List ℕ
lines_text [] fs = []
lines_text (i ∷ is) [] = []
lines_text (i ∷ is) (f ∷ fs) = line_text i f ++ lines_text is fs

abbrev pub answer_text : Plan → List Found → List ℕ
answer_text p fs = lines_text p.items fs

-- ---- answers of a query

abbrev pub IsFolded : Fold → Found → Type 0
IsFolded fold.Sum (Sum n) = ⊤
IsFolded fold.Least (Least n) = ⊤
IsFolded fold.Greatest (Greatest n) = ⊤
IsFolded fold.All (Listed ns) = ⊤
IsFolded f found = ⊥

abbrev pub IsFoundOf : Asked → Found → Type 0
IsFoundOf asked.Count (Count n) = ⊤
IsFoundOf (asked.Of f r) found = IsFolded f found
IsFoundOf a found = ⊥

abbrev pub IsItemFound : Item → Found → Type 0
IsItemFound item found = IsFoundOf item.asked found

-- one for each item, of the kind that it asks for
abbrev pub IsAnswerOf : Plan → List Found → Type 0
IsAnswerOf p fs = AllZip IsItemFound p.items fs
