-- What a caller of a pool is told of beside the history: the words that certain steps found, and what it has.
use Rattle.std.specs.Prelude.{◌≡◌, ℕ, Bool, true, false, List, ◌++◌, Option, Contains, All}
use Rattle.fm_base.specs.declared.{caller.Caller.{Caller}, arena_id.ArenaId.{ArenaId}}

-- the steps whose finds are kept, with their arguments
pub data FindStep : Type 0 where
  Draws : (expected : ℕ) → FindStep
  Visits : (id : ArenaId) (number : ℕ) → FindStep
  TakesSlot : (expected bit : ℕ) → FindStep
  TakesPage : (group expected bit : ℕ) → FindStep
  Maps : (id : ArenaId) (part page : ℕ) → FindStep
  TakesNumber : (group expected bit : ℕ) → FindStep

pub record Find : Type 0 where
  pub step : FindStep
  -- the word that the step found
  pub found : ℕ
  -- how many entries the caller had seen before the step's own entry
  pub seen : ℕ
  -- whether the caller was clear before the step
  pub clear : Bool
  -- how many callers were gathered into the caller before the step
  pub gathered : ℕ
  -- the caller that a draw drew
  pub drew : Option Caller

-- a caller that was gathered into this one, with what it had found
pub record Gathered : Type 0 where
  pub caller : Caller
  pub finds : List Find

-- what is gone through one by one when an arena is closed, and when it is swept
pub data Stretch : Type 0 where
  Marks : Stretch
  Parts : Stretch

-- an arena of which so many marks or parts are behind
pub record Walk (stretch : Stretch) : Type 0 where
  pub arena : ArenaId
  pub passed : ℕ

-- a close that was begun and not finished: it has visited so many marks
abbrev pub Close : Type 0
Close = Walk Marks

-- the sweep of an arena that ended: so many of its parts are given back, and one more is passed where its given bytes are forgotten
abbrev pub Sweep : Type 0
Sweep = Walk Parts

-- what a caller has, and what was gathered into it
pub record Rest : Type 0 where
  -- numbers that tell the pool and its shape
  pub home : List ℕ
  pub holds : List ArenaId
  pub handles : List ArenaId
  pub closes : List Close
  -- of arenas that it ended: until its sweep is done an arena's slot is in the caller's hand
  pub sweeps : List Sweep
  -- the pages in its hand
  pub pages : List ℕ
  -- the slot in its hand, for an arena that is opened next or to be given back
  pub slots : List ℕ
  pub gathered : List Gathered
  -- whether it is known that every drawn number but its own is gathered into it
  pub whole : Bool

abbrev pub is_draw : FindStep → Bool
is_draw (Draws expected) = true
is_draw step = false

abbrev pub is_slot : FindStep → Bool
is_slot (TakesSlot expected bit) = true
is_slot step = false

abbrev pub is_number : FindStep → Bool
is_number (TakesNumber group expected bit) = true
is_number step = false

-- the word of page bits or number bits that the step exchanged
abbrev pub group_of : FindStep → ℕ
group_of (TakesPage group expected bit) = group
group_of (TakesNumber group expected bit) = group
group_of step = 0

abbrev pub is_page : FindStep → Bool
is_page (TakesPage group expected bit) = true
is_page step = false

-- the finds grow by these
pub record FindsMore (old new : List Find) : Type 0 where
  pub more : List Find
  pub grown : new ≡ old ++ more
  pub no_draw : All (λ f. is_draw f.step ≡ false) more

-- among the finds that were added, a step of this kind found the word 0
pub record FoundNothing (is_step : FindStep → Bool) (old new : List Find) : Type 0 where
  pub more : List Find
  pub grown : new ≡ old ++ more
  pub find : Find
  pub among : Contains more find
  pub step : is_step find.step ≡ true
  pub nothing : find.found ≡ 0
