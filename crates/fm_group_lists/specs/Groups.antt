-- Groups of numbers: each number that comes, and how often.
use Rattle.std.specs.Prelude.{◌≡◌, ℕ, ◌+◌, ◌%◌, ◌^◌, ◌<◌, if◌then◌else◌, List, [], ◌∷◌, map, ℤ, ◌<ℤ◌, ⊤}
use Rattle.std.specs.{List.{AllByRecursion}, Ordering.{int_eq}}
use Rattle.fm_base_lists.specs.Among.{IsAmong}

-- how often n comes among these numbers
abbrev pub how_many : ℤ → List ℤ → ℕ
how_many n [] = 0
how_many n (m ∷ ms) = (if int_eq m n then 1 else 0) + how_many n ms

-- a number, and a count beside it
abbrev pub Group : Type 0
Group = ℤ × ℕ

abbrev pub keys : List Group → List ℤ
keys gs = map (λ g. g.0) gs

-- each number is above those before it
abbrev pub IsRising : List ℤ → Type 0
IsRising [] = ⊤
IsRising (x ∷ xs) = AllByRecursion (λ y. x <ℤ y) xs × IsRising xs

abbrev pub IsGroupOf : List ℤ → Group → Type 0
IsGroupOf ns g = (g.1 ≡ how_many g.0 ns) × (0 < g.1)

-- all numbers that come among these, rising, each once, with how often it comes
pub record AreGroups (ns : List ℤ) (gs : List Group) : Type 0 where
  pub rising : IsRising (keys gs)
  pub each : AllByRecursion (IsGroupOf ns) gs
  pub all : AllByRecursion (λ n. IsAmong n (keys gs)) ns

-- the sum of the counts beside a number
abbrev pub sum_at : ℤ → List Group → ℕ
sum_at n [] = 0
sum_at n (x ∷ xs) = (if int_eq x.0 n then x.1 else 0) + sum_at n xs

abbrev pub IsSumOf : List Group → Group → Type 0
IsSumOf xs g = (g.1 ≡ sum_at g.0 xs % 2 ^ 64) × IsAmong g.0 (keys xs)

-- all numbers of these pairs, rising, each once, with the sum of the counts beside it, modulo 2^64
pub record AreSummed (xs gs : List Group) : Type 0 where
  pub rising : IsRising (keys gs)
  pub each : AllByRecursion (IsSumOf xs) gs
  pub all : AllByRecursion (λ n. IsAmong n (keys gs)) (keys xs)

-- all counts together
abbrev pub total_of : List Group → ℕ
total_of [] = 0
total_of (g ∷ gs) = g.1 + total_of gs

-- ---- each is one list

-- numbers have one list of groups
abbrev pub GroupsAreOne : Type 0
GroupsAreOne = (ns : List ℤ) (gs hs : List Group) → AreGroups ns gs → AreGroups ns hs → gs ≡ hs

-- and pairs one list of sums
abbrev pub SumsAreOne : Type 0
SumsAreOne = (xs gs hs : List Group) → AreSummed xs gs → AreSummed xs hs → gs ≡ hs
