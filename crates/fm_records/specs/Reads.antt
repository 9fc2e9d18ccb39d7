-- What the visits of a query read of a segment, record by record, up to its end or to a value where reading stops.
use Rattle.std.specs.Prelude.{◌≡◌, ◌≢◌, ℕ, ◌+◌, ◌*◌, ◌<◌, ◌≤◌, List, [], ◌∷◌, ◌++◌, map, Bool, true, false, ℤ, Option, None, Some, Result, Ok, Err}
use Rattle.std.{proofs.Common.{zero, suc}, specs.List.{AllByRecursion, flat_map}}
use Rattle.fm_base.specs.declared.{caller.Caller.{Caller}, arena_id.ArenaId.{ArenaId}, refusal.Refusal.{Refusal, TheVariants.{Closed, Memory}}}
use Rattle.fm_base.specs.{Arenas.{MayUse}, Calls.{Read, Found as Found_word, Entry}, View.{View, Did}, Visits.{visit, refused_visit}}
use Rattle.fm_lanes.specs.Kind.{width_of}
use Rattle.fm_path.specs.{Wide.{wide_dims}, declared.value_spec.ValueSpec.{ValueSpec}}
use Rattle.fm_path_meaning.specs.{declared.dim.Dim.{Dim}, Walk.{offset_at}}
use Rattle.fm_segment.specs.{Access.{IsKnown}, Region.{EndsByLimit, Region}}
use Rattle.fm_records_query.specs.{Plan.{Plan}, declared.{condition.Condition.{Condition}, item.{Asked.{Asked}, Item.{Item}}}}
use Rattle.fm_records_query.specs.declared.item.Asked.TheVariants as asked
use Rattle.fm_records.specs.{declared.found.Found.{Found, TheVariants.{Count}}, Answers.{compares, folded}, Values.{index_lists}}
use Rattle.fm_records.specs.Words.{IsKnownAs, Seen, if_new, kept_after, kept_all, kept_last, number_by, unkept, words_at}

-- ---- visits that read

-- in no arena, and the segment is known to the memory and open to the caller
pub record CanRead (v : View) (s : Region) : Type 0 where
  pub outside : v.inside ≡ None
  pub known : IsKnown v s
  pub may : MayUse s.arena v.caller
  pub ends : EndsByLimit s.first s.size

-- so many bytes from a place on are the segment's
pub record LiesIn (s : Region) (place width : ℕ) : Type 0 where
  pub from : s.first ≤ place
  pub within : place + width ≤ s.first + s.size

-- a word that has a byte of the segment
pub record IsWordOf (s : Region) (word : ℕ) : Type 0 where
  pub above : s.first < 8 * word + 8
  pub below : 8 * word < s.first + s.size

-- one visit with one Read of a word, and what was found there
abbrev pub read_visit : Caller → ArenaId → ℕ × ℕ → List Entry
read_visit c id r = visit c id ((Read id r.0, Found_word r.1) ∷ [])

-- visits, each with one Read of a word of the segment
pub record AreReads (c : Caller) (s : Region) (own : List Entry) : Type 0 where
  pub reads : List (ℕ × ℕ)
  pub within : AllByRecursion (λ r. IsWordOf s r.0) reads
  pub visits : own ≡ flat_map (read_visit c s.arena) reads

-- such visits, and then one that found the arena closed
pub record StopsReading (c : Caller) (s : Region) (own : List Entry) : Type 0 where
  pub before : List Entry
  pub reads : AreReads c s before
  pub stops : own ≡ before ++ refused_visit c s.arena

-- such visits up to a refusal: the last found the arena closed, or memory was wanting behind one of them
abbrev pub AreReadsUpTo : Caller → Region → Refusal → List Entry → Type 0
AreReadsUpTo c s Closed own = StopsReading c s own
AreReadsUpTo c s Memory own = AreReads c s own
AreReadsUpTo c s r own = ⊥

abbrev pub AreReadsTo : {X : Type 0} → Caller → Region → Result X Refusal → List Entry → Type 0
AreReadsTo c s (Ok x) own = AreReads c s own
AreReadsTo c s (Err r) own = AreReadsUpTo c s r own

-- what a call does that reads a segment: such visits, of which P says the rest
abbrev pub Reads : {X : Type 0} → View → View → Region → (Caller → Result X Refusal → List Entry → Type 0) → Result X Refusal → Type 0
Reads old new s P result = Did old new (λ own. AreReadsTo old.caller s result own × P old.caller result own)

-- ---- one after the other

-- Elements are gone through in order, as T says of each: all of them, or up to the first whose result isn't `goes`.
-- Their visits come behind each other, and so does what they give.
pub data InOrder {A B R : Type 0} (goes : R) (T : A → R → List Entry → List B → Type 0) : List A → R → List Entry → List B → Type 0 where
  all_done : InOrder goes T [] goes [] []
  one_more : {x : A} {xs : List A} {r : R} → (own rest : List Entry) (given more : List B) → T x goes own given
      → InOrder goes T xs r rest more → InOrder goes T (x ∷ xs) r (own ++ rest) (given ++ more)
  comes_short : {x : A} {xs : List A} {r : R} → (own : List Entry) (given : List B) → r ≢ goes → T x r own given
      → InOrder goes T (x ∷ xs) r own given

-- ---- words that are read in turn

-- Elements are gone through in order: T says of each what is kept before it, its result, the words that are read, what it gives, and
-- what is kept behind it. All of them, or up to the first whose result isn't `goes`
pub data InTurn {A B R : Type 0} (goes : R) (T : List Seen → A → R → List Seen → List B → List Seen → Type 0) : List Seen → List A → R → List Seen
    → List B → List Seen → Type 0 where
  no_turn : {k : List Seen} → InTurn goes T k [] goes [] [] k
  next_turn : {k : List Seen} {x : A} {xs : List A} {r : R} {m : List Seen} → (l : List Seen) (own rest : List Seen) (given more : List B)
      → T k x goes own given l → InTurn goes T l xs r rest more m → InTurn goes T k (x ∷ xs) r (own ++ rest) (given ++ more) m
  short_turn : {k : List Seen} {x : A} {xs : List A} {r : R} {l : List Seen} → (own : List Seen) (given : List B) → r ≢ goes → T k x r own given l
      → InTurn goes T k (x ∷ xs) r own given l

-- ---- one record, whose first byte stands at the place

-- the places of a path's values in the record at a place, in the order of index lists; `at` is the offset at index 0
abbrev pub value_places : ℕ → ℕ → List Dim → List ℕ
value_places place at dims = map (λ is. place + offset_at at dims is) (index_lists dims)

-- The words of the value at a place are read that aren't kept, the lower one first; its number is by what was found there, then or before
pub record ReadsNumber (keeps : List Seen → Seen → List Seen) (k : List Seen) (spec : ValueSpec) (place : ℕ) (own : List Seen) (n : ℤ) (l : List Seen) : Type 0 where
  pub words : map (λ x. x.0) own ≡ unkept k (words_at place (width_of spec.kind))
  pub number : n ≡ number_by (k ++ own) spec place
  pub kept : l ≡ kept_after keeps k own

-- or the arena was found closed at one of these words
pub record FindsClosed (k : List Seen) (spec : ValueSpec) (place : ℕ) (own : List Seen) : Type 0 where
  pub word : ℕ
  pub behind : List ℕ
  pub words : map (λ x. x.0) own ++ word ∷ behind ≡ unkept k (words_at place (width_of spec.kind))

module _ (keeps : List Seen → Seen → List Seen) where
  abbrev pub GetsNumber : List Seen → ValueSpec → ℕ → Result ℤ Refusal → List Seen → List Seen → Type 0
  GetsNumber k spec place (Ok n) own l = ReadsNumber keeps k spec place own n l
  GetsNumber k spec place (Err Closed) own l = FindsClosed k spec place own
  GetsNumber k spec place (Err r) own l = ⊥

  -- the number is read and given; at `Memory` it was read, and couldn't be listed
  abbrev pub TakesNumber : ValueSpec → List Seen → ℕ → Result (Unit {0}) Refusal → List Seen → List ℤ → List Seen → Type 0
  TakesNumber spec k place (Ok u) own ns l = (n : ℤ) × ReadsNumber keeps k spec place own n l × (ns ≡ n ∷ [])
  TakesNumber spec k place (Err Closed) own ns l = FindsClosed k spec place own × (ns ≡ [])
  TakesNumber spec k place (Err Memory) own ns l = (n : ℤ) × ReadsNumber keeps k spec place own n l × (ns ≡ [])
  TakesNumber spec k place (Err r) own ns l = ⊥

  -- the values at these places, in their order
  abbrev pub TakesNumbers : ValueSpec → List Seen → List ℕ → Result (Unit {0}) Refusal → List Seen → List ℤ → List Seen → Type 0
  TakesNumbers spec = InTurn (Ok tt) (TakesNumber spec)

-- a condition's value is read, and it compares so
abbrev pub Tests : ℕ → List Seen → Condition → Result Bool Refusal → List Seen → List Seen → Type 0
Tests place k x (Ok holds) own l =
    (n : ℤ) × ReadsNumber kept_all k x.path.value (place + x.path.offset) own n l × (compares x.operator n x.literal ≡ holds)
Tests place k x (Err r) own l = GetsNumber kept_all k x.path.value (place + x.path.offset) (Err r) own l

-- the conditions are tested in order, up to the first that fails
abbrev pub TestsConditions : ℕ → List Seen → List Condition → Result Bool Refusal → List Seen → List Seen → Type 0
TestsConditions place k cs result own l = InTurn {B = ℤ} (Ok true) (λ j x r es none m. Tests place j x r es m) k cs result own [] l

-- A path with no open step reads words that aren't kept of the record. One with open steps begins with none, and keeps none behind it
abbrev pub TakesPath : List Dim → ValueSpec → List Seen → List ℕ → Result (Unit {0}) Refusal → List Seen → List ℤ → List Seen → Type 0
TakesPath [] spec k places result own ns l = TakesNumbers kept_all spec k places result own ns l
TakesPath (d ∷ ds) spec k places result own ns l = (m : List Seen) × TakesNumbers kept_last spec [] places result own ns m × (l ≡ k)

-- what an item finds in a chosen record, by the numbers read; or before the value where reading stops
abbrev pub FindsAsked : ℕ → List Seen → Asked → Result (Unit {0}) Refusal → List Seen → List Found → List Seen → Type 0
FindsAsked place k asked.Count result own found l = (result ≡ Ok tt) × (own ≡ []) × (found ≡ Count 1 ∷ []) × (l ≡ k)
FindsAsked place k (asked.Of f r) result own found l =
    (ns : List ℤ) × TakesPath (wide_dims r.dims) r.value k (value_places place r.offset r.dims) result own ns l × (found ≡ folded f ns ∷ [])

-- the items are gone through in order
abbrev pub FindsItems : ℕ → List Seen → List Item → Result (Unit {0}) Refusal → List Seen → List Found → List Seen → Type 0
FindsItems place = InTurn (Ok tt) (λ k item. FindsAsked place k item.asked)

-- A record is chosen, and its items find these; or it isn't, and gives nothing. At a condition's value nothing was found
pub data FindsRecord (p : Plan) (place : ℕ) : Result (Unit {0}) Refusal → List Seen → List (List Found) → Type 0 where
  chosen : {result : Result (Unit {0}) Refusal} → (k l own rest : List Seen) (fs : List Found) → TestsConditions place [] p.conditions (Ok true) own k
      → FindsItems place k p.items result rest fs l → FindsRecord p place result (own ++ rest) (fs ∷ [])
  passed_over : (k own : List Seen) → TestsConditions place [] p.conditions (Ok false) own k → FindsRecord p place (Ok tt) own []
  untested : {r : Refusal} → (k own : List Seen) → TestsConditions place [] p.conditions (Err r) own k → FindsRecord p place (Err r) own []

-- these words are read, one after the other; the last visit finds the arena closed where the result says so
abbrev pub visits_to : {X : Type 0} → Caller → ArenaId → Result X Refusal → List Seen → List Entry
visits_to c id (Ok x) seen = flat_map (read_visit c id) seen
visits_to c id (Err Closed) seen = flat_map (read_visit c id) seen ++ refused_visit c id
visits_to c id (Err r) seen = flat_map (read_visit c id) seen

-- the caller's visits read a record's words
pub record ReadsRecord (c : Caller) (id : ArenaId) (p : Plan) (place : ℕ) (result : Result (Unit {0}) Refusal) (own : List Entry)
    (given : List (List Found)) : Type 0 where
  pub seen : List Seen
  pub visits : own ≡ visits_to c id result seen
  pub finds : FindsRecord p place result seen given

-- ---- what a call does that reads words of a record

-- it ends, or is refused so
abbrev pub IsReadTo : {X : Type 0} → Result X Refusal → Type 0
IsReadTo (Ok x) = Unit {0}
IsReadTo (Err Closed) = Unit {0}
IsReadTo (Err Memory) = Unit {0}
IsReadTo (Err r) = ⊥

-- the visits read words of the segment, of which P says the rest
pub record SeesWords {X : Type 0} (c : Caller) (s : Region) (P : Result X Refusal → List Seen → Type 0) (result : Result X Refusal) (own : List Entry) : Type 0 where
  pub seen : List Seen
  pub within : AllByRecursion (λ x. IsWordOf s x.0) seen
  pub visits : own ≡ visits_to c s.arena result seen
  pub to : IsReadTo result
  pub does : P result seen

abbrev pub Sees : {X : Type 0} → View → View → Region → (Result X Refusal → List Seen → Type 0) → Result X Refusal → Type 0
Sees old new s P result = Did old new (SeesWords old.caller s P result)

-- none stands for an arena that was found closed
abbrev pub or_closed : {X : Type 0} → Option X → Result X Refusal
or_closed {X = X} None = Err Closed
or_closed {X = X} (Some x) = Ok x

-- what was found at a word: it is known, or read in one visit; or the arena is found closed
abbrev pub Fetches : Option ℕ → ℕ → Result ℕ Refusal → List Seen → Type 0
Fetches known word (Ok found) own = (own ≡ if_new known word found) × IsKnownAs known found
Fetches known word (Err Closed) own = (known ≡ None) × (own ≡ [])
Fetches known word (Err r) own = ⊥

-- ---- records, one behind the other

-- the places of so many records from one on
abbrev pub record_places : ℕ → ℕ → ℕ → List ℕ
record_places zero size place = []
record_places (suc count) size place = place ∷ record_places count size (place + size)
