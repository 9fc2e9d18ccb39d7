-- The answer over two runs of records, from the answers over each.
use Rattle.std.specs.{Prelude.{◌+◌, ◌^◌, ◌<◌, List, [], ◌∷◌, ◌++◌, length, take, ◌-◌, ◌+ℤ◌, FitsSigned, ⊤}, Int.{w128}, List.{AllZip}}
use Rattle.fm_records.specs.{declared.found.Found.{Found, TheVariants.{Count, Sum, Least, Greatest, Listed}}, Answers.{lesser, greater}}

-- both of one item, and their counts or sums together within 64 or 128 bits
abbrev pub CanJoinFound : Found → Found → Type 0
CanJoinFound (Count m) (Count n) = m + n < 2 ^ 64
CanJoinFound (Sum x) (Sum y) = FitsSigned w128 (x +ℤ y)
CanJoinFound (Least o) (Least p) = ⊤
CanJoinFound (Greatest o) (Greatest p) = ⊤
CanJoinFound (Listed xs) (Listed ys) = ⊤
CanJoinFound f g = ⊥

abbrev pub CanJoin : List Found → List Found → Type 0
CanJoin fs gs = AllZip CanJoinFound fs gs

-- what an item found in both runs
abbrev pub both : Found → Found → Found
both (Count m) (Count n) = Count (m + n)
both (Sum x) (Sum y) = Sum (x +ℤ y)
both (Least o) (Least p) = Least (lesser o p)
both (Greatest o) (Greatest p) = Greatest (greater o p)
both (Listed xs) (Listed ys) = Listed (xs ++ ys)
both f g = f

abbrev pub joined : List Found → List Found → List Found
joined [] gs = []
joined (f ∷ fs) [] = f ∷ fs
joined (f ∷ fs) (g ∷ gs) = both f g ∷ joined fs gs

-- ---- the same in two steps, of which only the first may want memory

-- the first, with the second's numbers behind its own
abbrev pub lengthened : Found → Found → Found
lengthened (Listed xs) (Listed ys) = Listed (xs ++ ys)
lengthened f g = f

-- the first, without as many of its last numbers as the second has
abbrev pub shortened : Found → Found → Found
shortened (Listed xs) (Listed ys) = Listed (take (length xs - length ys) xs)
shortened f g = f

-- what an item found in both runs, where numbers are listed already
abbrev pub summed : Found → Found → Found
summed (Count m) (Count n) = Count (m + n)
summed (Sum x) (Sum y) = Sum (x +ℤ y)
summed (Least o) (Least p) = Least (lesser o p)
summed (Greatest o) (Greatest p) = Greatest (greater o p)
summed f g = f
