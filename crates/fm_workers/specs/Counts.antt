-- How often each value of a byte comes among numbers.
use Rattle.std.specs.Prelude.{◌≡◌, ℕ, ◌+◌, ◌-◌, ◌^◌, ◌<◌, ◌≤◌, nat_lt, if◌then◌else◌, List, [], ◌∷◌, ◌++◌, length, slice_index, ℤ, pos, negsuc, ⊤}
use Rattle.std.specs.Ordering.{int_eq}
use Rattle.fm_lanes.specs.declared.value_kind.ValueKind.{ValueKind}
use Rattle.fm_lanes.specs.declared.value_kind.ValueKind.TheVariants as kind
use Rattle.fm_records_query.specs.{Plan.{Plan}, declared.item.{Asked.{Asked}, Item.{Item}}}
use Rattle.fm_records_query.specs.declared.fold.Fold.TheVariants as fold
use Rattle.fm_records_query.specs.declared.item.Asked.TheVariants as asked
use Rattle.fm_records.specs.declared.found.Found.{Found, TheVariants.{Listed}}

-- how many of these numbers are n
abbrev pub how_many : ℤ → List ℤ → ℕ
how_many n [] = 0
how_many n (m ∷ ms) = (if int_eq m n then 1 else 0) + how_many n ms

-- the number that is counted at this place: 128 and what is above stand for -128 to -1
abbrev pub number_of : ℕ → ℤ
number_of k = if nat_lt k 128 then pos k else negsuc (255 - k)

-- these are the counts of the numbers -128 to 127
pub record AreCounts (ns : List ℤ) (counts : List ℕ) : Type 0 where
  pub all : length counts ≡ 256
  pub each : (k : ℕ) → k < 256 → slice_index counts k ≡ how_many (number_of k) ns

-- these are the counts of some numbers, and so many more can be counted
pub record HasRoomFor (more : List ℤ) (counts : List ℕ) : Type 0 where
  pub before : List ℤ
  pub are : AreCounts before counts
  pub few : length before + length more < 2 ^ 64

-- whatever was counted before, these were counted too
abbrev pub CountsToo : List ℤ → List ℕ → List ℕ → Type 0
CountsToo more old new = (ns : List ℤ) → AreCounts ns old → AreCounts (ns ++ more) new

-- each count is the sum of both, within 64 bits
pub record AreSums (xs ys counts : List ℕ) : Type 0 where
  pub all : length counts ≡ 256
  pub each : (k : ℕ) → k < 256 → slice_index counts k ≡ slice_index xs k + slice_index ys k
  pub fits : (k : ℕ) → k < 256 → slice_index counts k < 2 ^ 64

-- a sum of both passes 64 bits
pub record PassSums (xs ys : List ℕ) : Type 0 where
  pub place : ℕ
  pub within : place < 256
  pub passes : 2 ^ 64 ≤ slice_index xs place + slice_index ys place

-- ---- queries whose numbers can be counted

abbrev pub IsByteKind : ValueKind → Type 0
IsByteKind kind.Byte = ⊤
IsByteKind kind.Boolean = ⊤
IsByteKind k = ⊥

abbrev pub ListsBytes : Asked → Type 0
ListsBytes (asked.Of fold.All r) = IsByteKind r.value.kind
ListsBytes a = ⊥

abbrev pub AreTallied : List Item → Type 0
AreTallied (item ∷ []) = ListsBytes item.asked
AreTallied items = ⊥

-- the query lists the values of one path alone, which are bytes or booleans
abbrev pub IsTally : Plan → Type 0
IsTally p = AreTallied p.items

abbrev pub numbers_listed : Found → List ℤ
numbers_listed (Listed ns) = ns
numbers_listed found = []

-- the numbers that the first item lists
abbrev pub listed : List Found → List ℤ
listed (found ∷ fs) = numbers_listed found
listed [] = []
