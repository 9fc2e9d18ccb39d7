-- What a count does: the value is read, and then places are tried in their order, up to one that is claimed for an equal number or was free.
use Rattle.std.specs.Prelude.{◌≡◌, ◌≢◌, ◌⊎◌, ℕ, ◌+◌, ◌<◌, List, [], ◌∷◌, ◌++◌, ℤ, Some, None, Result, Ok, Err, Bool, true, false}
use Rattle.fm_base.specs.declared.{caller.Caller.{Caller}, refusal.Refusal.{Refusal, TheVariants.{Closed, WrongThread, TableFull}}}
use Rattle.fm_base.specs.{Arenas.{MayUse}, Calls.{Add, Call, Entry, Found, Reply, SwapIf}, Visits.{refused_visit, visit}}
use Rattle.fm_records.specs.{Reads.{GetsNumber, SeesWords}, Words.{kept_none}}
use Rattle.fm_group.specs.{Values.{Valued, offset_of}, Table.{Counter, claim_word, count_word, named_by, places_in, tried_at}}

-- the words of the n-th value were read, each in a visit with one Read, and its number is by what was found there; or the arena was found closed
abbrev pub ReadsValue : Caller → Valued → ℕ → Result ℤ Refusal → List Entry → Type 0
ReadsValue c v n = SeesWords c v.records (λ r seen. GetsNumber kept_none [] v.path.value (v.records.first + offset_of v n) r seen [])

-- the caller may use both arenas
pub record MayCount (c : Caller) (w : Counter) : Type 0 where
  pub records : MayUse w.values.records.arena c
  pub table : MayUse w.table.arena c

module _ (c : Caller) (w : Counter) where
  -- a try to claim a place for the n-th value, and what it found
  abbrev pub claim_act : ℕ → ℕ → ℕ → Call × Reply
  claim_act n p found = (SwapIf w.table.arena (claim_word w.table p) 0 (n + 1), Found found)

  -- its count one more
  abbrev pub add_act : ℕ → ℕ → Call × Reply
  add_act p count = (Add w.table.arena (count_word w.table p) 1, Found count)

  abbrev pub claim_try : ℕ → ℕ → ℕ → List Entry
  claim_try n p found = visit c w.table.arena (claim_act n p found ∷ [])

  abbrev pub claimed : ℕ → ℕ → ℕ → List Entry
  claimed n p count = visit c w.table.arena (claim_act n p 0 ∷ add_act p count ∷ [])

  abbrev pub add_one : ℕ → ℕ → List Entry
  add_one p count = visit c w.table.arena (add_act p count ∷ [])

  -- the n-th value, whose number is x, is counted
  module _ (n : ℕ) (x : ℤ) where
    -- at a place was found the claim of a value, which was read, or found closed
    pub record FindsClaim (p : ℕ) (r : Result ℤ Refusal) (own : List Entry) : Type 0 where
      pub found : ℕ
      pub value : ℕ
      pub names : named_by w.values found ≡ Some value
      pub reads : List Entry
      pub read : ReadsValue c w.values value r reads
      pub parts : own ≡ claim_try n p found ++ reads

    -- the place was claimed, or its claim is of an equal number; and its count is one more
    pub data CountsAt (p : ℕ) : List Entry → Type 0 where
      claims : (count : ℕ) → CountsAt p (claimed n p count)
      meets : (count : ℕ) (own : List Entry) → FindsClaim p (Ok x) own → CountsAt p (own ++ add_one p count)

    -- its claim is of another number, or names no value
    pub data PassesBy (p : ℕ) : List Entry → Type 0 where
      unnamed : (found : ℕ) → found ≢ 0 → named_by w.values found ≡ None → PassesBy p (claim_try n p found)
      other : (y : ℤ) (own : List Entry) → y ≢ x → FindsClaim p (Ok y) own → PassesBy p own

    -- an arena was found closed there
    pub data StopsAt (p : ℕ) : List Entry → Type 0 where
      shut : StopsAt p (refused_visit c w.table.arena)
      unread : (own : List Entry) → FindsClaim p (Err Closed) own → StopsAt p own
      uncounted : (own : List Entry) → FindsClaim p (Ok x) own → StopsAt p (own ++ refused_visit c w.table.arena)

    -- one place: counted there; passed by; or stopped
    abbrev pub DoesTry : ℕ → Result Bool Refusal → List Entry → Type 0
    DoesTry p (Ok true) own = CountsAt p own
    DoesTry p (Ok false) own = PassesBy p own
    DoesTry p (Err Closed) own = StopsAt p own
    DoesTry p (Err r) own = ⊥

    -- so many places were passed by, in their order
    pub data PassesFirst : ℕ → List Entry → Type 0 where
      none_yet : PassesFirst 0 []
      one_more : {k : ℕ} → (own more : List Entry) → PassesFirst k own → PassesBy (tried_at w x k) more → PassesFirst (k + 1) (own ++ more)

    -- and then one wasn't, where it ended so
    pub record EndsTries (Ends : ℕ → List Entry → Type 0) (p : ℕ) (own : List Entry) : Type 0 where
      pub k : ℕ
      pub within : k < places_in w.table
      pub place : p ≡ tried_at w x k
      pub before : List Entry
      pub passed : PassesFirst k before
      pub last : List Entry
      pub ended : Ends p last
      pub parts : own ≡ before ++ last

    abbrev pub DoesTries : Result ℕ Refusal → List Entry → Type 0
    DoesTries (Ok p) own = EndsTries CountsAt p own
    DoesTries (Err Closed) own = (p : ℕ) × EndsTries StopsAt p own
    DoesTries (Err TableFull) own = PassesFirst (places_in w.table) own
    DoesTries (Err r) own = ⊥

  -- the value was read, and then places were tried
  pub record ReadsAndTries (n : ℕ) (result : Result ℕ Refusal) (own : List Entry) : Type 0 where
    pub number : ℤ
    pub reads : List Entry
    pub read : ReadsValue c w.values n (Ok number) reads
    pub tries : List Entry
    pub tried : DoesTries n number result tries
    pub parts : own ≡ reads ++ tries

  -- what a count does, the refusals in the order of the checks
  abbrev pub DoesCount : ℕ → Result ℕ Refusal → List Entry → Type 0
  DoesCount n (Ok p) own = MayCount c w × ReadsAndTries n (Ok p) own
  DoesCount n (Err WrongThread) own = ¬ (MayCount c w) × (own ≡ [])
  DoesCount n (Err Closed) own = MayCount c w × (ReadsValue c w.values n (Err Closed) own ⊎ ReadsAndTries n (Err Closed) own)
  DoesCount n (Err TableFull) own = MayCount c w × ReadsAndTries n (Err TableFull) own
  DoesCount n (Err r) own = ⊥

-- ---- one act after another

-- the claim found at a place: where it was free it is claimed, and its count is one more
pub data Claims (c : Caller) (w : Counter) (n p : ℕ) : ℕ → List Entry → Type 0 where
  puts : (count : ℕ) → Claims c w n p 0 (claimed c w n p count)
  finds : (found : ℕ) → found ≢ 0 → Claims c w n p found (claim_try c w n p found)

abbrev pub DoesClaim : Caller → Counter → ℕ → ℕ → Result ℕ Refusal → List Entry → Type 0
DoesClaim c w n p (Ok found) own = Claims c w n p found own
DoesClaim c w n p (Err Closed) own = own ≡ refused_visit c w.table.arena
DoesClaim c w n p (Err r) own = ⊥

abbrev pub DoesAddOne : Caller → Counter → ℕ → Result (Unit {0}) Refusal → List Entry → Type 0
DoesAddOne c w p (Ok u) own = (count : ℕ) × (own ≡ add_one c w p count)
DoesAddOne c w p (Err Closed) own = own ≡ refused_visit c w.table.arena
DoesAddOne c w p (Err r) own = ⊥
