-- What the parts of `allocate` do inside the arena.
use Rattle.std.specs.Prelude.{◌≡◌, ◌≤◌, ◌+◌, ◌++◌, ℕ, Bool, true, false, List, [], ◌∷◌, All, Result, Ok, Err, ⊤}
use Rattle.fm_base.specs.declared.{caller.Caller.{Caller}, arena_id.ArenaId.{ArenaId}, refusal.Refusal.{Refusal}}
use Rattle.fm_base.specs.{Calls.{Lend, Allocate, Reply, Fine, Given, NoRoom, Entry, entry_of}, Machine.{rounded_up}, View.{is_loan}}
use Rattle.fm_base.specs.declared.refusal.Refusal.TheVariants as refusal
use Rattle.fm_rule_facts.specs.{Views.{View, In, limit_of}, Steps.{HasParts}}
use Rattle.fm_rule.specs.declared.pool.Pool.{Pool}
use Rattle.fm_rule_calls.specs.Kept.{Kept}
use Rattle.fm_pages.specs.{Claims.{AllFoundEmpty}, Maps.{Way}}
use Rattle.fm_gate.specs.{Pages.{LackedPart, FullExactly, LendsFirst, LendsNow}, Needs.{IsInside}}

-- ---- the count to expect first

-- if its range is within the limit, the pass has read which page each of its parts has
pub record CanTry (old new : View) (size align count : ℕ) : Type 0 where
  pub way : Way old new [] []
  pub parts : rounded_up count align + size ≤ limit_of old.shape → HasParts new count (rounded_up count align + size)

abbrev pub IfRead : Bool → Type 0 → Type 0
IfRead true P = P
IfRead false P = ⊤

-- the pass has read, where it answers so, which page each part of the range has
pub record HasRead (old new : View) (from to : ℕ) (done : Bool) : Type 0 where
  pub way : Way old new [] []
  pub parts : IfRead done (HasParts new from to)

-- ---- all of it

-- the entry lends a page to the arena
abbrev pub LendsTo : Caller → ArenaId → Entry → Type 0
LendsTo c id e = (page : ℕ) × (part : ℕ) × (e ≡ entry_of c (Lend page id part) Fine)

-- the last entry is an Allocate in the arena, and those before it lend pages to it
pub record Allocates (c : Caller) (id : ArenaId) (size align : ℕ) (reply : Reply) (own : List Entry) : Type 0 where
  pub lends : List Entry
  pub are : All (LendsTo c id) lends
  pub is : own ≡ lends ++ entry_of c (Allocate id size align) reply ∷ []

abbrev pub DoesGive : Caller → ArenaId → ℕ → ℕ → Result ℕ Refusal → List Entry → Type 0
DoesGive c id size align (Ok place) own = Allocates c id size align (Given place) own
DoesGive c id size align (Err (refusal.NoRoom given)) own = Allocates c id size align (NoRoom given) own
DoesGive c id size align (Err refusal.PoolFull) own = All (LendsTo c id) own
DoesGive c id size align (Err r) own = ⊥

-- a part of the range had no page, and none was free, as `FoundNoPage` says it of the whole call
pub record NonePaged (old new : View) (id : ArenaId) (size align : ℕ) : Type 0 where
  pub found : AllFoundEmpty old new
  pub lacked : LackedPart old new id size align []

-- of the part of `allocate` that is inside the arena
pub record AfterGive (pool : Pool) (old new : View) (id : ArenaId) (size align : ℕ) (result : Result ℕ Refusal) : Type 0 where
  pub did : Kept old new (DoesGive old.caller id size align result)
  pub inside : IsInside pool new id
  pub no_page : result ≡ Err refusal.PoolFull → NonePaged old new id size align
  pub exact : old.whole ≡ true → old.closes ≡ [] → old.sweeps ≡ [] → FullExactly old id size align result
  pub lends : LendsFirst old new id size align result did.own
  pub now : old.whole ≡ true → (e : Entry) → In e did.own → is_loan e.call ≡ true → LendsNow old id size align e
  pub no_room : old.whole ≡ true → (given : ℕ) → result ≡ Err (refusal.NoRoom given)
      → did.own ≡ entry_of old.caller (Allocate id size align) (NoRoom given) ∷ []
