-- What reading asks of paths, and what is added to what was found before.
use Rattle.std.specs.Prelude.{◌≡◌, ℕ, ◌+◌, List, [], ◌∷◌, ◌++◌, ℤ, ◌+ℤ◌, Some, Result, Ok}
use Rattle.fm_base.specs.{declared.{caller.Caller.{Caller}, arena_id.ArenaId.{ArenaId}, refusal.Refusal.{Refusal}}, Calls.{Entry}}
use Rattle.fm_lanes.specs.Kind.{width_of}
use Rattle.fm_path.specs.{Resolution.{StaysInside}, declared.value_spec.ValueSpec.{ValueSpec}}
use Rattle.fm_path_meaning.specs.{declared.dim.Dim.{Dim}, Steady.{IsSteady}, Walk.{AreAdmitted, offset_at}}
use Rattle.fm_segment.specs.Region.{Region}
use Rattle.fm_records_query.specs.{Plan.{Plan}, declared.{condition.Condition.{Condition}, item.{Asked.{Asked}, Item.{Item}}}}
use Rattle.fm_records_query.specs.declared.item.Asked.TheVariants as asked
use Rattle.fm_records.specs.{declared.found.Found.{Found, TheVariants.{Count, Sum, Least, Greatest, Listed}}, Answers.{lesser, greater}, Joined.{both, joined}}
use Rattle.fm_records.specs.{Reads.{FindsAsked, FindsItems, InOrder, InTurn, LiesIn, ReadsRecord, TakesNumber}, Words.{Seen}}

-- the condition's one value stands in the segment, where its record begins at the place
pub record IsTestable (s : Region) (place : ℕ) (x : Condition) : Type 0 where
  pub closed : x.path.dims ≡ []
  pub stays : StaysInside x.path
  pub lies : LiesIn s place x.path.root_size

-- at admitted indices the values stand in the segment
pub record ReachesInside (s : Region) (place at : ℕ) (dims : List Dim) (spec : ValueSpec) : Type 0 where
  pub steady : (is : List ℕ) → AreAdmitted dims is → IsSteady at dims is
  pub lies : (is : List ℕ) → AreAdmitted dims is → LiesIn s (place + offset_at at dims is) (width_of spec.kind)

-- an item's values stand in the segment
abbrev pub IsReadable : Region → ℕ → Asked → Type 0
IsReadable s place asked.Count = Unit {0}
IsReadable s place (asked.Of f r) = ReachesInside s place r.offset r.dims r.value

abbrev pub IsItemReadable : Region → ℕ → Item → Type 0
IsItemReadable s place item = IsReadable s place item.asked

-- ---- what elements give is added one by one

abbrev pub all_added : {S B : Type 0} → (S → B → S) → S → List B → S
all_added add f [] = f
all_added add f (b ∷ bs) = all_added add (add f b) bs

-- the elements were gone through, as far as reading came, and what they gave was added to what was found before
pub record Adds {A B S : Type 0} (T : A → Result (Unit {0}) Refusal → List Entry → List B → Type 0) (add : S → B → S) (xs : List A) (old new : S)
    (result : Result (Unit {0}) Refusal) (own : List Entry) : Type 0 where
  pub given : List B
  pub reads : InOrder (Ok tt) T xs result own given
  pub added : new ≡ all_added add old given

-- one number more
abbrev pub with_number : Found → ℤ → Found
with_number (Count n) z = Count n
with_number (Sum x) z = Sum (x +ℤ z)
with_number (Least o) z = Least (lesser o (Some z))
with_number (Greatest o) z = Greatest (greater o (Some z))
with_number (Listed zs) z = Listed (zs ++ z ∷ [])

-- the same of elements that read words in turn
pub record AddsTurn {A B S : Type 0} (T : List Seen → A → Result (Unit {0}) Refusal → List Seen → List B → List Seen → Type 0) (add : S → B → S) (k : List Seen)
    (xs : List A) (old new : S) (l : List Seen) (result : Result (Unit {0}) Refusal) (own : List Seen) : Type 0 where
  pub given : List B
  pub reads : InTurn (Ok tt) T k xs result own given l
  pub added : new ≡ all_added add old given

-- the values at these places
abbrev pub AddsNumbers : (List Seen → Seen → List Seen) → ValueSpec → List Seen → List ℕ → Found → Found → List Seen → Result (Unit {0}) Refusal → List Seen
    → Type 0
AddsNumbers keeps spec = AddsTurn (TakesNumber keeps spec) with_number

-- what an item finds in a record
pub record AddsItem (place : ℕ) (k : List Seen) (a : Asked) (old new : Found) (l : List Seen) (result : Result (Unit {0}) Refusal) (own : List Seen) : Type 0 where
  pub found : Found
  pub finds : FindsAsked place k a result own (found ∷ []) l
  pub added : new ≡ both old found

-- the same for items in order
pub record AddsItems (place : ℕ) (k : List Seen) (items : List Item) (old new : List Found) (l : List Seen) (result : Result (Unit {0}) Refusal)
    (own : List Seen) : Type 0 where
  pub found : List Found
  pub finds : FindsItems place k items result own found l
  pub added : new ≡ joined old found

-- what the records at these places give
abbrev pub AddsRecords : Caller → ArenaId → Plan → List ℕ → List Found → List Found → Result (Unit {0}) Refusal → List Entry → Type 0
AddsRecords c id p = Adds (ReadsRecord c id p) joined
