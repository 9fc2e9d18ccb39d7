-- What reading a table does: its words are read in runs of 64 places, the lowest first, each run in one visit, and behind it the values that its claims name.
use Rattle.std.specs.Prelude.{◌≡◌, ◌≢◌, ℕ, ◌+◌, ◌-◌, ◌*◌, ◌/◌, ◌<◌, ◌≤◌, min, List, [], ◌∷◌, ◌++◌, length, get_or, Some, None, Result, Ok, Err, Vec}
use Rattle.std.specs.declared.alloc.Global.{Global}
use Rattle.fm_base.specs.declared.{caller.Caller.{Caller}, refusal.Refusal.{Refusal, TheVariants.{Closed, Memory, WrongThread}}}
use Rattle.fm_base.specs.{Calls.{Entry}, Visits.{reads, refused_visit, visit}}
use Rattle.fm_segment.specs.Region.{Region}
use Rattle.fm_group_lists.specs.Groups.{AreSummed, Group}
use Rattle.fm_group.specs.{Counting.{MayCount, ReadsValue}, Table.{Counter, claim_word, named_by, places_in}}

-- ---- runs

-- how many runs of 64 places a table has, the last of them as long as there are places
abbrev pub runs_in : Region → ℕ
runs_in t = (places_in t + 63) / 64

-- how many places the k-th run has, from the place 64 * k on
abbrev pub run_length : Region → ℕ → ℕ
run_length t k = min 64 (places_in t - 64 * k)

-- the claim of a run's j-th place, and its count, where these are the run's words
abbrev pub claim_of : List ℕ → ℕ → ℕ
claim_of words j = get_or words (2 * j) 0

abbrev pub count_of : List ℕ → ℕ → ℕ
count_of words j = get_or words (2 * j + 1) 0

module _ (c : Caller) (w : Counter) where
  -- in one visit each word of the k-th run was read, the lowest first: of each place its claim, and then its count
  abbrev pub run_seen : ℕ → List ℕ → List Entry
  run_seen k words = visit c w.table.arena (reads w.table.arena (claim_word w.table (64 * k)) words)

  -- of the first j places of a run, whose words were found so: each value was read that a claim names, in their order. Found was its number, and the count beside the claim
  pub data ReadsNamed (words : List ℕ) : ℕ → List Group → List Entry → Type 0 where
    none_read : ReadsNamed words 0 [] []
    free : {j : ℕ} {xs : List Group} {own : List Entry} → ReadsNamed words j xs own → named_by w.values (claim_of words j) ≡ None → ReadsNamed words (j + 1) xs own
    taken : {j : ℕ} {xs : List Group} {own : List Entry} → ReadsNamed words j xs own → (g : Group) (value : ℕ) (more : List Entry)
        → named_by w.values (claim_of words j) ≡ Some value → g.1 ≡ count_of words j → ReadsValue c w.values value (Ok g.0) more
        → ReadsNamed words (j + 1) (xs ++ g ∷ []) (own ++ more)

  -- the k-th run's words were read, and then so the values of its first j places
  pub record ReadsPart (k j : ℕ) (xs : List Group) (own : List Entry) : Type 0 where
    pub words : List ℕ
    pub long : length words ≡ 2 * run_length w.table k
    pub values : List Entry
    pub named : ReadsNamed words j xs values
    pub parts : own ≡ run_seen k words ++ values

  -- and of all its places
  abbrev pub ReadsRun : ℕ → List Group → List Entry → Type 0
  ReadsRun k = ReadsPart k (run_length w.table k)

  -- an arena was found closed there: the table's, or that of the records, where the value of a claim was to be read
  pub data EndsAt (k : ℕ) : List Entry → Type 0 where
    table_shut : EndsAt k (refused_visit c w.table.arena)
    records_shut : (j value : ℕ) (xs : List Group) (own more : List Entry) (part : ReadsPart k j xs own) → j < run_length w.table k
        → named_by w.values (claim_of part.words j) ≡ Some value → ReadsValue c w.values value (Err Closed) more → EndsAt k (own ++ more)

  -- so the first k runs were read, in their order: what was found at their places
  pub data ReadsRuns : ℕ → List Group → List Entry → Type 0 where
    no_run : ReadsRuns 0 [] []
    one_run : {k : ℕ} {xs : List Group} → (ys : List Group) (own more : List Entry) → ReadsRuns k xs own → ReadsRun k ys more
        → ReadsRuns (k + 1) (xs ++ ys) (own ++ more)

  -- and at the next an arena was found closed
  pub record StopsReading (own : List Entry) : Type 0 where
    pub k : ℕ
    pub within : k < runs_in w.table
    pub found : List Group
    pub before : List Entry
    pub reads : ReadsRuns k found before
    pub last : List Entry
    pub ended : EndsAt k last
    pub parts : own ≡ before ++ last

  -- there was no memory for what was found: at the places so far, of which the last run has one that is claimed; or when all of it was summed up
  pub data WantsMemory : List Entry → Type 0 where
    at_run : (k j : ℕ) (xs ys : List Group) (own more : List Entry) → k < runs_in w.table → j ≤ run_length w.table k → ReadsRuns k xs own → ReadsPart k j ys more
        → ys ≢ [] → WantsMemory (own ++ more)
    at_end : (xs : List Group) (own : List Entry) → ReadsRuns (runs_in w.table) xs own → xs ≢ [] → WantsMemory own

  -- what reading the places does
  abbrev pub DoesReadPlaces : Result (List Group) Refusal → List Entry → Type 0
  DoesReadPlaces (Ok xs) own = ReadsRuns (runs_in w.table) xs own
  DoesReadPlaces (Err Closed) own = StopsReading own
  DoesReadPlaces (Err Memory) own = WantsMemory own
  DoesReadPlaces (Err r) own = ⊥

  -- all were read, and what was found at them is summed up by its numbers
  pub record ReadsGroups (gs : List Group) (own : List Entry) : Type 0 where
    pub found : List Group
    pub reads : ReadsRuns (runs_in w.table) found own
    pub summed : AreSummed found gs

  -- what `read_groups` does, the refusals in the order of the checks
  abbrev pub DoesReadGroups : Result (List Group) Refusal → List Entry → Type 0
  DoesReadGroups (Ok gs) own = MayCount c w × ReadsGroups gs own
  DoesReadGroups (Err WrongThread) own = ¬ (MayCount c w) × (own ≡ [])
  DoesReadGroups (Err Closed) own = MayCount c w × StopsReading own
  DoesReadGroups (Err Memory) own = MayCount c w × WantsMemory own
  DoesReadGroups (Err r) own = ⊥

-- ---- one run

-- its words in one visit
abbrev pub DoesLook : Caller → Counter → ℕ → List ℕ → Result (Unit {0}) Refusal → List Entry → Type 0
DoesLook c w k words (Ok u) own = own ≡ run_seen c w k words
DoesLook c w k words (Err Closed) own = own ≡ refused_visit c w.table.arena
DoesLook c w k words (Err r) own = ⊥

-- the value of a claim was to be read, and its arena was found closed
pub record StopsNaming (c : Caller) (w : Counter) (words : List ℕ) (own : List Entry) : Type 0 where
  pub j : ℕ
  pub within : j < length words / 2
  pub value : ℕ
  pub xs : List Group
  pub first : List Entry
  pub more : List Entry
  pub named : ReadsNamed c w words j xs first
  pub names : named_by w.values (claim_of words j) ≡ Some value
  pub read : ReadsValue c w.values value (Err Closed) more
  pub parts : own ≡ first ++ more

-- the values that its claims name, behind what was found before
abbrev pub DoesReadNamed : Caller → Counter → List ℕ → (old new : List Group) → Result (Unit {0}) Refusal → List Entry → Type 0
DoesReadNamed c w words old new (Ok u) own = (xs : List Group) × (new ≡ old ++ xs) × ReadsNamed c w words (length words / 2) xs own
DoesReadNamed c w words old new (Err Closed) own = StopsNaming c w words own
DoesReadNamed c w words old new (Err Memory) own = (j : ℕ) × (xs : List Group) × (j ≤ length words / 2) × ReadsNamed c w words j xs own × (xs ≢ [])
DoesReadNamed c w words old new (Err r) own = ⊥

-- both
abbrev pub DoesReadRun : Caller → Counter → ℕ → (old new : List Group) → Result (Unit {0}) Refusal → List Entry → Type 0
DoesReadRun c w k old new (Ok u) own = (xs : List Group) × (new ≡ old ++ xs) × ReadsRun c w k xs own
DoesReadRun c w k old new (Err Closed) own = EndsAt c w k own
DoesReadRun c w k old new (Err Memory) own = (j : ℕ) × (xs : List Group) × (j ≤ run_length w.table k) × ReadsPart c w k j xs own × (xs ≢ [])
DoesReadRun c w k old new (Err r) own = ⊥

-- what was read, as a list
abbrev pub found_as : Result (Vec Group Global) Refusal → Result (List Group) Refusal
found_as (Ok found) = Ok found.items
found_as (Err r) = Err r
