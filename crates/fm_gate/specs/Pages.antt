-- Where an allocation finds no page.
use Rattle.std.specs.Prelude.{◌≡◌, ◌⊎◌, Contains, ◌<◌, ◌≤◌, ◌+◌, ◌*◌, ◌/◌, ℕ, List, [], ◌∷◌, ◌++◌, All, Result, Ok, Err, ⊤}
use Rattle.fm_base.specs.{declared.{arena_id.ArenaId.{ArenaId}, caller.Caller.{Caller}, refusal.Refusal.{Refusal}}, Arenas.{arena_of}, Calls.{Entry, Enter, Allocate, Lend, Leave, Fine, Given, NoRoom, entry_of}, View.{but_loans}}
use Rattle.fm_base.specs.{Histories.{made_by, state_after}, Machine.{rounded_up}}
use Rattle.fm_base.specs.declared.refusal.Refusal.TheVariants as refusal
use Rattle.fm_rule_facts.specs.{Loans.{Loan, HasPart, loans_of}, Scarcity.{IsScarce}, Views.{View, Begins, given_of, limit_of}}
use Rattle.fm_pages.specs.Claims.{AllFoundEmpty}

-- how many bytes the arena had given after these entries
abbrev pub given_after : View → List Entry → ArenaId → ℕ
given_after v seen id = (arena_of (state_after (limit_of v.shape) [] seen) id).given

-- a history that began with what had been seen before the call, and goes on to what is seen after it
pub record IsDuring (old new : View) (at : List Entry) : Type 0 where
  pub since : Begins old.seen at
  pub until : Begins at new.seen

-- the part has a byte of the range that begins at this count
pub record IsInRange (v : View) (count size align part : ℕ) : Type 0 where
  pub fits : rounded_up count align + size ≤ limit_of v.shape
  pub after : count / (v.shape.page_words * 8) ≤ part
  pub before : part * (v.shape.page_words * 8) < rounded_up count align + size

-- a part of the range, as placed by a count that stood during the call, had no page, and after that the pass made these entries
pub record LackedPart (old new : View) (id : ArenaId) (size align : ℕ) (made : List Entry) : Type 0 where
  pub counted : List Entry
  pub count_stood : IsDuring old new counted
  pub part : ℕ
  pub in_range : IsInRange old (given_after old counted id) size align part
  pub at : List Entry
  pub later : List Entry
  pub at_stood : IsDuring old new at
  pub seen : new.seen ≡ at ++ later
  pub lacked : ¬ (HasPart (loans_of at) id part)
  pub own : made_by old.caller later ≡ made

-- the entry lends a page to the arena, as a part with a byte of the range, which is within the limit, as a count places it that stood before the entry
pub record LendsInRange (old new : View) (id : ArenaId) (size align : ℕ) (e : Entry) : Type 0 where
  pub page : ℕ
  pub part : ℕ
  pub is : e ≡ entry_of old.caller (Lend page id part) Fine
  pub counted : List Entry
  pub since : Begins old.seen counted
  -- what had been seen when it was made, and what came later
  pub at : List Entry
  pub later : List Entry
  pub until : Begins counted at
  pub seen : new.seen ≡ at ++ e ∷ later
  pub in_range : IsInRange old (given_after old counted id) size align part

-- the entries lend pages for the range, and then there are these
pub record LendsThen (old new : View) (id : ArenaId) (size align : ℕ) (acts own : List Entry) : Type 0 where
  pub lends : List Entry
  pub are : All (LendsInRange old new id size align) lends
  pub is : own ≡ lends ++ acts

-- what the pass does inside the arena: it lends pages for the range, and then allocates, unless a page is wanting
abbrev pub LendsFirst : (old new : View) (id : ArenaId) (size align : ℕ) → Result ℕ Refusal → List Entry → Type 0
LendsFirst old new id size align (Ok place) own =
    LendsThen old new id size align (entry_of old.caller (Allocate id size align) (Given place) ∷ []) own
LendsFirst old new id size align (Err (refusal.NoRoom given)) own =
    LendsThen old new id size align (entry_of old.caller (Allocate id size align) (NoRoom given) ∷ []) own
LendsFirst old new id size align (Err refusal.PoolFull) own = LendsThen old new id size align [] own
LendsFirst old new id size align (Err r) own = ⊥

-- it enters, does so, and leaves
pub record LendsInside (old new : View) (id : ArenaId) (size align : ℕ) (result : Result ℕ Refusal) (own : List Entry) : Type 0 where
  pub inside : List Entry
  pub lends : LendsFirst old new id size align result inside
  pub is : own ≡ entry_of old.caller (Enter id) Fine ∷ inside ++ entry_of old.caller (Leave id) Fine ∷ []

-- all entries of an allocation: where it is refused before that, none lends a page
abbrev pub AllocatesSo : (old new : View) (id : ArenaId) (size align : ℕ) → Result ℕ Refusal → List Entry → Type 0
AllocatesSo old new id size align (Ok place) own = LendsInside old new id size align (Ok place) own
AllocatesSo old new id size align (Err (refusal.NoRoom given)) own = LendsInside old new id size align (Err (refusal.NoRoom given)) own
AllocatesSo old new id size align (Err refusal.PoolFull) own = LendsInside old new id size align (Err refusal.PoolFull) own
AllocatesSo old new id size align (Err r) own = but_loans own ≡ own

-- the entry lends a page to the arena as a part of the range that is placed by the count which the pass knows
pub record LendsNow (v : View) (id : ArenaId) (size align : ℕ) (e : Entry) : Type 0 where
  pub page : ℕ
  pub part : ℕ
  pub is : e.call ≡ Lend page id part
  pub in_range : IsInRange v (given_of v id) size align part

-- what is lent afterwards was lent before, or as a part of that range
pub record LentBesides (old new : View) (id : ArenaId) (size align : ℕ) : Type 0 where
  pub kept : (l : Loan) → Contains (loans_of old.seen) l → Contains (loans_of new.seen) l
  pub more : (l : Loan) → Contains (loans_of new.seen) l → Contains (loans_of old.seen) l ⊎ ((l.id ≡ id) × IsInRange old (given_of old id) size align l.part)

-- it was refused for want of room, and lent nothing
abbrev pub LendsNone : Caller → ArenaId → (size align given : ℕ) → List Entry → Type 0
LendsNone c id size align given own =
    own ≡ entry_of c (Enter id) Fine ∷ entry_of c (Allocate id size align) (NoRoom given) ∷ entry_of c (Leave id) Fine ∷ []

-- of an allocation that is refused with PoolFull: each word of page bits was 0 at a step of the call, and after its last Lend a part had no page
pub record FoundNoPage (old new : View) (id : ArenaId) (size align : ℕ) : Type 0 where
  pub found : AllFoundEmpty old new
  pub lacked : LackedPart old new id size align (entry_of old.caller (Leave id) Fine ∷ [])

-- pages are too few exactly where it is refused with PoolFull; other refusals come before
abbrev pub FullExactly : View → ArenaId → (size align : ℕ) → Result ℕ Refusal → Type 0
FullExactly old id size align (Ok place) = ¬ (IsScarce old id size align)
FullExactly old id size align (Err refusal.PoolFull) = IsScarce old id size align
FullExactly old id size align (Err (refusal.NoRoom given)) = ¬ (IsScarce old id size align)
FullExactly old id size align (Err r) = ⊤
