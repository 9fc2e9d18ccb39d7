-- How far what a query finds can come.
use Rattle.std.specs.{Prelude.{ℕ, ◌+◌, ◌*◌, ◌^◌, ◌≤◌, List, length, ℤ, pos, ◌+ℤ◌, ◌≤ℤ◌, Ok, ⊤}, List.{AllZip}}
use Rattle.fm_base.specs.{declared.caller.Caller.{Caller}, Calls.{Entry}}
use Rattle.fm_records_query.specs.{Plan.{Plan, IsPlan}, declared.item.{Asked.{Asked}, Item.{Item}}}
use Rattle.fm_records_query.specs.declared.item.Asked.TheVariants as asked
use Rattle.fm_segment.specs.Region.{Region}
use Rattle.fm_records.specs.{declared.found.Found.{Found, TheVariants.{Count, Sum, Least, Greatest, Listed}}, Joined.{CanJoin, joined}, Query.{DoesQuery}}
use Rattle.fm_records.specs.{Texts.{IsItemFound, IsAnswerOf}, Values.{index_lists}}

-- a sum of at most n numbers of 64 bits
pub record IsSumBy (n : ℕ) (x : ℤ) : Type 0 where
  pub low : pos 0 ≤ℤ (x +ℤ pos (n * 2 ^ 63))
  pub high : x ≤ℤ pos (n * 2 ^ 63)

-- what at most n records, or numbers, come to
abbrev pub IsFoundBy : ℕ → Found → Type 0
IsFoundBy n (Count m) = m ≤ n
IsFoundBy n (Sum x) = IsSumBy n x
IsFoundBy n (Least o) = ⊤
IsFoundBy n (Greatest o) = ⊤
IsFoundBy n (Listed xs) = ⊤

-- what an item finds in at most n records, or numbers
pub record IsFew (n : ℕ) (item : Item) (found : Found) : Type 0 where
  pub kind : IsItemFound item found
  pub by : IsFoundBy n found

-- an answer that comes from at most n numbers an item
abbrev pub AreFew : ℕ → Plan → List Found → Type 0
AreFew n p fs = AllZip (IsFew n) p.items fs

-- an answer over a segment comes from no more numbers than the segment has bytes
abbrev pub AnswersAreFew : Type 0
AnswersAreFew =
    (c : Caller) (p : Plan) (s : Region) (a : List Found) (own : List Entry) → IsPlan p → DoesQuery c p s (Ok a) own → AreFew s.size p a

-- answers of one query can be joined, printed and joined again
pub record Joins (p : Plan) (n : ℕ) (a b : List Found) : Type 0 where
  pub can : CanJoin a b
  pub few : AreFew n p (joined a b)
  pub answer : IsAnswerOf p (joined a b)

-- where they come from so few numbers together
abbrev pub FewCanJoin : Type 0
FewCanJoin = (p : Plan) (m n : ℕ) (a b : List Found) → AreFew m p a → AreFew n p b → m + n ≤ 2 ^ 62 → Joins p (m + n) a b

-- ---- what can be added

-- so many numbers, or records, can be
abbrev pub HasRoom : Found → ℕ → Type 0
HasRoom found more = (n : ℕ) × (n + more ≤ 2 ^ 62) × IsFoundBy n found

-- how many numbers an item adds in a record
abbrev pub how_many : Asked → ℕ
how_many asked.Count = 1
how_many (asked.Of f r) = length (index_lists r.dims)

-- what an item found is of its kind, and a record's numbers can be added to it
pub record IsOpen (item : Item) (found : Found) : Type 0 where
  pub kind : IsItemFound item found
  pub room : HasRoom found (how_many item.asked)

-- the items of a query can find so many more
abbrev pub HaveRoom : Plan → List Found → ℕ → Type 0
HaveRoom p fs more = (n : ℕ) × (n + more ≤ 2 ^ 62) × AreFew n p fs
