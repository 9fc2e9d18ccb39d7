-- What holds of every answer.
use Rattle.std.specs.Prelude.{◌≡◌, ℕ, ◌+◌, ◌*◌, ◌%◌, ◌<◌, ◌≤◌, ◌↔◌, true, List, [], ◌++◌, length, ℤ, ◌≤ℤ◌, Some, MatchOption, Result, map}
use Rattle.std.specs.List.{AllByRecursion, list_all, slice_get}
use Rattle.fm_base.specs.{declared.{arena_id.ArenaId.{ArenaId}, caller.Caller.{Caller}, refusal.Refusal.{Refusal}}, Arenas.{State}, Calls.{Entry}}
use Rattle.fm_lanes.specs.Kind.{width_of}
use Rattle.fm_layout.specs.Tree.{Tree, Value}
use Rattle.fm_path_meaning.specs.{Found.{Finds}, Walk.{AreAdmitted, offset_at}, declared.dim.Dim.{Dim}}
use Rattle.fm_base_lists.specs.Among.{AreApart, IsAmong}
use Rattle.fm_path.specs.{Resolution.{Resolution, IsResolved}, Wide.{wide_dims}}
use Rattle.fm_path_text.specs.declared.step.PathStep.{PathStep}
use Rattle.fm_segment_access.specs.Alone.{bytes_of_arena}
use Rattle.fm_segment.specs.{Alone.{bytes_of_region}, Region.{Region, part_of}}
use Rattle.fm_records_query.specs.{Plan.{IsPlan, Plan}, declared.{fold.Fold.{Fold}, item.{Asked.{Asked}, Item.{Item}}}}
use Rattle.fm_records_query.specs.declared.item.Asked.TheVariants as asked
use Rattle.fm_records.specs.{declared.found.Found.{Found}, Alone.{bytes_at_places}, Answers.{answer, holds, least_of, greatest_of}, Bytes.{HasRead, IsAnswered}}
use Rattle.fm_records.specs.{Joined.{joined}, Reads.{IsWordOf, ReadsRecord}, Records.{records}, Texts.{IsAnswerOf}}
use Rattle.fm_records.specs.Values.{index_lists, number_there, number_at}

-- the number of a place that is a value layout
abbrev pub IsNumberOf : Tree → ℕ → List ℕ → ℤ → Type 0
IsNumberOf (Value k o l) at record_bytes n = n ≡ number_there k o at record_bytes
IsNumberOf t at record_bytes n = ⊥

-- the path comes with these indices to a place of the layout, whose number this is
pub record StandsAt (path : List PathStep) (t : Tree) (is record_bytes : List ℕ) (n : ℤ) : Type 0 where
  pub at : ℕ
  pub layout : Tree
  pub finds : Finds path t is at layout
  pub number : IsNumberOf layout at record_bytes n

-- the numbers of a resolved path are those of the places to which following the path comes
abbrev pub NumbersStandAtPlaces : Type 0
NumbersStandAtPlaces =
    (path : List PathStep) (t : Tree) (r : Resolution) (is record_bytes : List ℕ)
    → IsResolved path t r → AreAdmitted r.dims is → StandsAt path t is record_bytes (number_at r is record_bytes)

-- the index lists are those that are admitted
abbrev pub ListsAdmitted : Type 0
ListsAdmitted = (ds : List Dim) (is : List ℕ) → IsAmong is (index_lists ds) ↔ AreAdmitted ds is

-- the answers over whole records and over the bytes behind them, joined, are the answer over both
abbrev pub AnswersJoin : Type 0
AnswersJoin =
    (p : Plan) (a b : List ℕ) → 0 < p.size → length a % p.size ≡ 0 → joined (answer p a) (answer p b) ≡ answer p (a ++ b)

-- the least of numbers is one of them, and none is below it; there is none where there are no numbers
abbrev pub LeastIsLeast : Type 0
LeastIsLeast = (ns : List ℤ) → MatchOption (least_of ns) (ns ≡ []) (λ n. IsAmong n ns × AllByRecursion (λ m. n ≤ℤ m) ns)

abbrev pub GreatestIsGreatest : Type 0
GreatestIsGreatest = (ns : List ℤ) → MatchOption (greatest_of ns) (ns ≡ []) (λ n. IsAmong n ns × AllByRecursion (λ m. m ≤ℤ n) ns)

-- the answer over any bytes is one of the query
abbrev pub AnswersAreOfTheQuery : Type 0
AnswersAreOfTheQuery = (p : Plan) (bytes : List ℕ) → IsAnswerOf p (answer p bytes)

-- ---- the bytes of a region

-- where the arena has all bytes of the region, those at the region's places are its bytes
abbrev pub PlacesHaveTheBytes : Type 0
PlacesHaveTheBytes =
    (s : State) (r : Region) → r.first + r.size ≤ length (bytes_of_arena s r.arena)
    → bytes_at_places s r ≡ bytes_of_region s r

-- where Reads found these bytes, the answer is that over them
abbrev pub AnswersOverBytes : Type 0
AnswersOverBytes =
    (c : Caller) (p : Plan) (s : Region) (bytes : List ℕ) (a : List Found) (own : List Entry)
    → IsAnswered c p s bytes a own → a ≡ answer p bytes

-- the record of this index is chosen, and an item asks for its value at these indices
pub record IsAsked (p : Plan) (bytes : List ℕ) (index : ℕ) (r : Resolution) (is : List ℕ) : Type 0 where
  pub record_bytes : List ℕ
  pub stands : slice_get (records p.size bytes) index ≡ Some record_bytes
  pub chosen : list_all (holds record_bytes) p.conditions ≡ true
  pub item : Item
  pub among : IsAmong item p.items
  pub fold : Fold
  pub asks : item.asked ≡ asked.Of fold r
  pub admitted : AreAdmitted r.dims is

-- where that value stands
abbrev pub value_in : Plan → Region → ℕ → Resolution → List ℕ → Region
value_in p s index r is = part_of (index * p.size + offset_at r.offset r.dims is) (width_of r.value.kind) s

-- and each word of such a value is read
abbrev pub ReadsWhatIsAsked : Type 0
ReadsWhatIsAsked =
    (c : Caller) (p : Plan) (s : Region) (bytes : List ℕ) (a : List Found) (own : List Entry)
    (index : ℕ) (r : Resolution) (is : List ℕ) (word : ℕ)
    → IsAnswered c p s bytes a own → IsAsked p bytes index r is
    → IsWordOf (value_in p s index r is) word → HasRead c s.arena word own

-- ---- how often words are read

-- the path has no open step
abbrev pub IsFixed : Asked → Type 0
IsFixed asked.Count = Unit {0}
IsFixed (asked.Of f r) = wide_dims r.dims ≡ []

-- where no path of a query has an open step, no word of a record is read twice
abbrev pub ReadsWordsOnce : Type 0
ReadsWordsOnce =
    (c : Caller) (id : ArenaId) (p : Plan) (place : ℕ) (result : Result (Unit {0}) Refusal) (own : List Entry) (given : List (List Found))
    → IsPlan p → AllByRecursion (λ (item : Item). IsFixed item.asked) p.items → (r : ReadsRecord c id p place result own given)
    → AreApart (map (λ x. x.0) r.seen)
