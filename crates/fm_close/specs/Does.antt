-- What shutting, one visit and the return of a handle do: the caller's own entries and the answer.
use Rattle.std.specs.Prelude.{◌≡◌, ℕ, ◌+◌, ◌<◌, Bool, true, false, List, [], ◌∷◌, All, Option, Some, None, Result, Ok, Err}
use Rattle.fm_base.specs.declared.{caller.Caller.{Caller}, arena_id.ArenaId.{ArenaId}, refusal.Refusal.{Refusal}}
use Rattle.fm_base.specs.{declared.refusal.Refusal.TheVariants.{WrongThread, CannotClose, Held, Closed}, Arenas.{MayUse}, Calls.{Entry, entry_of}}
use Rattle.fm_base.specs.Does.{IsClosable}
use Rattle.fm_base.specs.Calls as machine
use Rattle.fm_gate.specs.Makers.{Made}
use Rattle.fm_close.specs.declared.{gave_back.GaveBack.{GaveBack}, shutting.Shutting.{Shutting}, outcome.Visit.{Visit, TheVariants.{Next, Inside, Ended}}}
use Rattle.fm_close.specs.declared.gave_back.GaveBack.TheVariants as gave

-- the close that this pass made of an arena whose marks are all to be visited
abbrev pub begun : Made → ArenaId → Shutting
begun maker id = record { arena = id; next = 0; ended = false; maker = maker }

-- cases in the order of the checks
abbrev pub DoesShut : Made → ArenaId → Result Shutting Refusal → List Entry → Type 0
DoesShut m id (Ok s) own =
    IsClosable id.kind × MayUse id m.caller × (s ≡ begun m id) × (own ≡ entry_of m.caller (machine.Shut id) machine.Fine ∷ [])
DoesShut m id (Err (CannotClose kind)) own = ¬ (IsClosable id.kind) × (kind ≡ id.kind) × (own ≡ [])
DoesShut m id (Err WrongThread) own = IsClosable id.kind × ¬ (MayUse id m.caller) × (own ≡ [])
DoesShut m id (Err Closed) own =
    IsClosable id.kind × MayUse id m.caller × (own ≡ entry_of m.caller (machine.Shut id) machine.Closed ∷ [])
DoesShut m id (Err (Held holds)) own =
    IsClosable id.kind × MayUse id m.caller × (0 < holds)
    × (own ≡ entry_of m.caller (machine.Shut id) (machine.Held holds) ∷ [])
DoesShut m id (Err r) own = ⊥

-- What the visit of mark k answers: whether the mark names the arena, and whether it is the last one
abbrev pub visit_answer : ℕ → Bool → Bool → Visit
visit_answer k true last = Inside k
visit_answer k false true = Ended
visit_answer k false false = Next

-- the close after a visit that was answered so
abbrev pub after_visit : Shutting → Visit → Shutting
after_visit s Next = record s { next = s.next + 1 }
after_visit s (Inside k) = s
after_visit s Ended = record s { ended = true }

abbrev pub DoesVisit : Caller → ArenaId → Visit → List Entry → Type 0
DoesVisit c id Next own = own ≡ []
DoesVisit c id (Inside k) own = own ≡ []
DoesVisit c id Ended own = own ≡ entry_of c (machine.End id) machine.Fine ∷ []

-- the entry takes back a page that was lent
abbrev pub IsBack : Caller → Entry → Type 0
IsBack c e = (page : ℕ) × (e ≡ entry_of c (machine.Back page) machine.Fine)

-- so does each of them
abbrev pub AreBacks : Caller → List Entry → Type 0
AreBacks c own = All (IsBack c) own

-- a handle is spent: others are left, or it was the last and the close of the arena is begun
abbrev pub DoesSpend : Made → ArenaId → Option Shutting → List Entry → Type 0
DoesSpend m id None own = own ≡ entry_of m.caller (machine.Unhold id) machine.Fine ∷ []
DoesSpend m id (Some s) own = (s ≡ begun m id) × (own ≡ entry_of m.caller (machine.Shut id) machine.Fine ∷ [])

-- whether other handles are left
abbrev pub others_left : GaveBack → Bool
others_left gave.Kept = true
others_left gave.Ended = false
