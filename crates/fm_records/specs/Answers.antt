-- What a query answers over records.
use Rattle.std.specs.{Prelude.{ℕ, List, [], ◌∷◌, length, map, filter, Bool, not, ℤ, pos, ◌+ℤ◌, int_lt, int_le, Option, Some, None}, Int.{int_min, int_max}}
use Rattle.std.specs.{List.{flat_map, list_all}, Ordering.{int_eq}}
use Rattle.fm_records_query.specs.{Plan.{Plan}, declared.{condition.Condition.{Condition}, fold.Fold.{Fold}, item.{Asked.{Asked}, Item.{Item}}}}
use Rattle.fm_records_query.specs.declared.operator.Operator.{Operator, TheVariants.{Equal, NotEqual, Below, AtMost, Above, AtLeast}}
use Rattle.fm_records_query.specs.declared.fold.Fold.TheVariants as fold
use Rattle.fm_records_query.specs.declared.item.Asked.TheVariants as asked
use Rattle.fm_records.specs.{declared.found.Found.{Found, TheVariants.{Count, Sum, Least, Greatest, Listed}}, Records.{records}, Values.{number_at, numbers_in}}

-- ---- which records are chosen

-- whether a number on the left compares so with one on the right
abbrev pub compares : Operator → ℤ → ℤ → Bool
compares Equal x y = int_eq x y
compares NotEqual x y = not (int_eq x y)
compares Below x y = int_lt x y
compares AtMost x y = int_le x y
compares Above x y = int_lt y x
compares AtLeast x y = int_le y x

-- whether a condition holds for a record of these bytes
abbrev pub holds : List ℕ → Condition → Bool
holds record_bytes c = compares c.operator (number_at c.path [] record_bytes) c.literal

-- the records for which all conditions hold
abbrev pub chosen : List Condition → List (List ℕ) → List (List ℕ)
chosen conditions rs = filter (λ record_bytes. list_all (holds record_bytes) conditions) rs

-- ---- what is found in those

abbrev pub sum_of : List ℤ → ℤ
sum_of [] = pos 0
sum_of (x ∷ xs) = x +ℤ sum_of xs

-- the lesser of two numbers, of which each may be missing
abbrev pub lesser : Option ℤ → Option ℤ → Option ℤ
lesser None o = o
lesser (Some x) None = Some x
lesser (Some x) (Some y) = Some (int_min x y)

abbrev pub greater : Option ℤ → Option ℤ → Option ℤ
greater None o = o
greater (Some x) None = Some x
greater (Some x) (Some y) = Some (int_max x y)

abbrev pub least_of : List ℤ → Option ℤ
least_of [] = None
least_of (x ∷ xs) = lesser (Some x) (least_of xs)

abbrev pub greatest_of : List ℤ → Option ℤ
greatest_of [] = None
greatest_of (x ∷ xs) = greater (Some x) (greatest_of xs)

abbrev pub folded : Fold → List ℤ → Found
folded fold.Sum xs = Sum (sum_of xs)
folded fold.Least xs = Least (least_of xs)
folded fold.Greatest xs = Greatest (greatest_of xs)
folded fold.All xs = Listed xs

-- what is found in these records: how many they are, or what their values come to, in the order of records
abbrev pub found_in : List (List ℕ) → Asked → Found
found_in rs asked.Count = Count (length rs)
found_in rs (asked.Of f r) = folded f (flat_map (numbers_in r) rs)

abbrev pub item_found : List (List ℕ) → Item → Found
item_found rs item = found_in rs item.asked

-- what each item finds in the chosen ones of these records
abbrev pub found_over : Plan → List (List ℕ) → List Found
found_over p rs = map (item_found (chosen p.conditions rs)) p.items

-- the answer over the records of these bytes
abbrev pub answer : Plan → List ℕ → List Found
answer p bytes = found_over p (records p.size bytes)
