-- What each call of `Memory`, and of a pool beside, does: the caller's own entries and the answer. Cases in the order of the checks.
use Rattle.std.specs.Prelude.{◌≡◌, ◌≢◌, ℕ, ◌+◌, ◌-◌, ◌*◌, ◌^◌, ◌<◌, ◌≤◌, bit_and, bit_or, Bool, true, false, List, [], ◌∷◌, Option, Some, None, Result, Ok, Err}
use Rattle.fm_base.specs.declared.{caller.Caller.{Caller}, arena_id.ArenaId.{ArenaId}, kind.Kind.{Kind, TheVariants.{Global, Automatic}}}
use Rattle.fm_base.specs.declared.refusal.Refusal.{Refusal}
use Rattle.fm_base.specs.declared.refusal.Refusal.TheVariants.{Closed, WrongThread, Unsupported, TooManyHolds, BadAlignment, NoRoom, PoolFull, NoSlot, Memory, CannotClose, Held}
use Rattle.fm_base.specs.{Arenas.{MayUse, owner_of}, Calls.{Call, Reply, Entry, entry_of}, Machine.{IsPower}, View.{View, Did, but_loans, given_in}}
use Rattle.fm_base.specs.Visits.{Acts, entries_of, visit, refused_visit, Tries}
use Rattle.fm_base.specs.Calls as machine

-- inside an arena, where the word has a given byte
pub record CanReach (v : View) (word : ℕ) : Type 0 where
  pub id : ArenaId
  pub inside : v.inside ≡ Some id
  pub given : 8 * word < given_in v id

-- inside an arena, where so many words from this index on have given bytes alone
pub record CanReachAll (v : View) (first count : ℕ) : Type 0 where
  pub id : ArenaId
  pub inside : v.inside ≡ Some id
  pub given : 8 * first + 8 * count ≤ given_in v id
  pub small : 8 * first + 8 * count ≤ 2 ^ 40

-- an arena of this kind is closed by hand
abbrev pub IsClosable : Kind → Type 0
IsClosable kind = (kind ≢ Global) × (kind ≢ Automatic)

abbrev pub DoesEnter : Caller → ArenaId → Result (Unit {0}) Refusal → List Entry → Type 0
DoesEnter c id (Ok u) own = MayUse id c × (own ≡ entry_of c (machine.Enter id) machine.Fine ∷ [])
DoesEnter c id (Err WrongThread) own = ¬ (MayUse id c) × (own ≡ [])
DoesEnter c id (Err Closed) own = MayUse id c × (own ≡ refused_visit c id)
DoesEnter c id (Err r) own = ⊥

-- one act in the arena that the caller is inside
abbrev pub DoesAct : Option ArenaId → Caller → (ArenaId → Call) → Reply → List Entry → Type 0
DoesAct None c call reply own = ⊥
DoesAct (Some id) c call reply own = own ≡ entry_of c (call id) reply ∷ []

-- acts in the arena that the caller is inside
abbrev pub DoesActs : Option ArenaId → Caller → (ArenaId → Acts) → List Entry → Type 0
DoesActs None c acts own = ⊥
DoesActs (Some id) c acts own = own ≡ entries_of c (acts id)

-- the word, its bits under `mask` put to `bits`
unfoldable pub patched : ℕ → ℕ → ℕ → ℕ
patched mask bits word = bit_or (bit_and word (2 ^ 64 - 1 - mask)) bits

-- tries that change just the bits under the mask
abbrev pub DoesPatch : Option ArenaId → Caller → ℕ → ℕ → ℕ → ℕ → List Entry → Type 0
DoesPatch None c word mask bits found own = ⊥
DoesPatch (Some id) c word mask bits found own =
    (acts : Acts) × Tries id word (patched mask bits) found acts × (own ≡ entries_of c acts)

abbrev pub DoesOpen : Caller → Kind → Result ArenaId Refusal → List Entry → Type 0
DoesOpen c kind (Ok id) own =
    (id.kind ≡ kind) × (owner_of id ≡ c) × (own ≡ entry_of c (machine.Open id) machine.Fine ∷ [])
DoesOpen c kind (Err NoSlot) own = own ≡ []
DoesOpen c kind (Err Memory) own = own ≡ []
DoesOpen c kind (Err r) own = ⊥

abbrev pub DoesAllocate : Caller → ArenaId → ℕ → ℕ → Result ℕ Refusal → List Entry → Type 0
DoesAllocate c id size align (Ok place) own =
    IsPower align × MayUse id c
    × (own ≡ visit c id ((machine.Allocate id size align, machine.Given place) ∷ []))
DoesAllocate c id size align (Err BadAlignment) own = ¬ (IsPower align) × (own ≡ [])
DoesAllocate c id size align (Err WrongThread) own = IsPower align × ¬ (MayUse id c) × (own ≡ [])
DoesAllocate c id size align (Err Closed) own = IsPower align × MayUse id c × (own ≡ refused_visit c id)
DoesAllocate c id size align (Err (NoRoom given)) own =
    IsPower align × MayUse id c
    × (own ≡ visit c id ((machine.Allocate id size align, machine.NoRoom given) ∷ []))
DoesAllocate c id size align (Err PoolFull) own = IsPower align × MayUse id c × (own ≡ visit c id [])
DoesAllocate c id size align (Err Memory) own = IsPower align × MayUse id c × (own ≡ [])
DoesAllocate c id size align (Err r) own = ⊥

abbrev pub DoesClose : Caller → ArenaId → Result (Unit {0}) Refusal → List Entry → Type 0
DoesClose c id (Ok u) own =
    IsClosable id.kind × MayUse id c
    × (own ≡ entry_of c (machine.Shut id) machine.Fine ∷ entry_of c (machine.End id) machine.Fine ∷ [])
DoesClose c id (Err (CannotClose kind)) own = ¬ (IsClosable id.kind) × (kind ≡ id.kind) × (own ≡ [])
DoesClose c id (Err WrongThread) own = IsClosable id.kind × ¬ (MayUse id c) × (own ≡ [])
DoesClose c id (Err Closed) own =
    IsClosable id.kind × MayUse id c × (own ≡ entry_of c (machine.Shut id) machine.Closed ∷ [])
DoesClose c id (Err (Held holds)) own =
    IsClosable id.kind × MayUse id c × (0 < holds)
    × (own ≡ entry_of c (machine.Shut id) (machine.Held holds) ∷ [])
DoesClose c id (Err r) own = ⊥

-- ---- the calls of a pool beside those of a memory

-- whether the arena let the caller in
abbrev pub DoesIsAlive : Caller → ArenaId → Result Bool Refusal → List Entry → Type 0
DoesIsAlive c id (Ok true) own = MayUse id c × (own ≡ visit c id [])
DoesIsAlive c id (Ok false) own = MayUse id c × (own ≡ refused_visit c id)
DoesIsAlive c id (Err WrongThread) own = ¬ (MayUse id c) × (own ≡ [])
DoesIsAlive c id (Err r) own = ⊥

-- a hold of an arena that isn't automatic
abbrev pub DoesTakeHold : Caller → ArenaId → Result (Unit {0}) Refusal → List Entry → Type 0
DoesTakeHold c id (Ok u) own = MayUse id c × (own ≡ entry_of c (machine.Hold id) machine.Fine ∷ [])
DoesTakeHold c id (Err WrongThread) own = ¬ (MayUse id c) × (own ≡ [])
DoesTakeHold c id (Err Closed) own = MayUse id c × (own ≡ entry_of c (machine.Hold id) machine.Closed ∷ [])
DoesTakeHold c id (Err TooManyHolds) own =
    MayUse id c × (own ≡ entry_of c (machine.Hold id) machine.TooManyHolds ∷ [])
DoesTakeHold c id (Err r) own = ⊥

abbrev pub DoesHold : Caller → ArenaId → Result (Unit {0}) Refusal → List Entry → Type 0
DoesHold c id (Err Unsupported) own = (id.kind ≡ Automatic) × (own ≡ [])
DoesHold c id result own = (id.kind ≢ Automatic) × DoesTakeHold c id result own

abbrev pub DoesUnhold : Caller → ArenaId → List Entry → Type 0
DoesUnhold c id own = own ≡ entry_of c (machine.Unhold id) machine.Fine ∷ []

-- another handle of an automatic arena
abbrev pub DoesAgain : Caller → ArenaId → Result (Unit {0}) Refusal → List Entry → Type 0
DoesAgain c id (Ok u) own = own ≡ entry_of c (machine.Hold id) machine.Fine ∷ []
DoesAgain c id (Err TooManyHolds) own = own ≡ entry_of c (machine.Hold id) machine.TooManyHolds ∷ []
DoesAgain c id (Err r) own = ⊥

-- a handle of an automatic arena is spent: others are left, or it was the last and the arena has ended
abbrev pub DoesGiveBack : Caller → ArenaId → (others_left : Bool) → List Entry → Type 0
DoesGiveBack c id true own = own ≡ entry_of c (machine.Unhold id) machine.Fine ∷ []
DoesGiveBack c id false own =
    own ≡ entry_of c (machine.Shut id) machine.Fine ∷ entry_of c (machine.End id) machine.Fine ∷ []

-- ---- the calls of a memory, from one view to the next

abbrev pub DidEnter : View → View → ArenaId → Result (Unit {0}) Refusal → Type 0
DidEnter old new id result = Did old new (DoesEnter old.caller id result)

abbrev pub DidAct : View → View → (ArenaId → Call) → Reply → Type 0
DidAct old new call reply = Did old new (DoesAct old.inside old.caller call reply)

abbrev pub DidActs : View → View → (ArenaId → Acts) → Type 0
DidActs old new acts = Did old new (DoesActs old.inside old.caller acts)

abbrev pub DidPatch : View → View → ℕ → ℕ → ℕ → ℕ → Type 0
DidPatch old new word mask bits found = Did old new (DoesPatch old.inside old.caller word mask bits found)

abbrev pub DidOpen : View → View → Kind → Result ArenaId Refusal → Type 0
DidOpen old new kind result = Did old new (λ own. DoesOpen old.caller kind result (but_loans own))

abbrev pub DidAllocate : View → View → ArenaId → ℕ → ℕ → Result ℕ Refusal → Type 0
DidAllocate old new id size align result =
    Did old new (λ own. DoesAllocate old.caller id size align result (but_loans own))

abbrev pub DidClose : View → View → ArenaId → Result (Unit {0}) Refusal → Type 0
DidClose old new id result = Did old new (λ own. DoesClose old.caller id result (but_loans own))
