-- Blocks of a pool's words that are lent to arenas as their parts.
use Rattle.std.specs.Prelude.{◌≡◌, ◌≢◌, ℕ, ◌/◌, ◌<◌, ◌==◌, true, List, [], ◌∷◌, filter, not, Contains, All, ⊤}
use Rattle.fm_words.specs.declared.shape.Shape.{Shape}
use Rattle.fm_base.specs.{declared.arena_id.ArenaId.{ArenaId}, Arenas.{State, Ended, has_arena, arena_of}}
use Rattle.fm_base.specs.{Calls.{Call, Read, Write, SwapIf, Add, Lend, Back, Entry}, Machine.{after}}

pub record Loan : Type 0 where
  pub block : ℕ
  pub id : ArenaId
  -- the index of the part of the arena
  pub part : ℕ

abbrev pub loan_of : ℕ → ArenaId → ℕ → Loan
loan_of block id part = record { block = block; id = id; part = part }

abbrev pub loans_by : List Loan → Call → List Loan
loans_by loans (Lend block id part) = loan_of block id part ∷ loans
loans_by loans (Back block) = filter (λ l. not (l.block == block)) loans
loans_by loans call = loans

-- the loans that entries leave, from these
abbrev pub loans_after : List Loan → List Entry → List Loan
loans_after loans [] = loans
loans_after loans (e ∷ es) = loans_after (loans_by loans e.call) es

-- the loans of a history that weren't taken back
abbrev pub loans_of : List Entry → List Loan
loans_of es = loans_after [] es

-- the block is lent to no arena
abbrev pub IsFree : List Loan → ℕ → Type 0
IsFree loans block = All (λ l. l.block ≢ block) loans

-- nothing is lent to the arena
abbrev pub IsUnlent : List Loan → ArenaId → Type 0
IsUnlent loans id = (l : Loan) → Contains loans l → l.id ≢ id

abbrev pub HasPart : List Loan → ArenaId → ℕ → Type 0
HasPart loans id part = (block : ℕ) × Contains loans (loan_of block id part)

-- The call, made in this state, is right by these loans; a block has `size` words
abbrev pub IsRightlyLentIn : ℕ → State → List Loan → Call → Type 0
IsRightlyLentIn size s loans (Lend block id part) =
    IsFree loans block × (has_arena s id ≡ true) × ((arena_of s id).life ≢ Ended) × ¬ (HasPart loans id part)
IsRightlyLentIn size s loans (Back block) =
    (id : ArenaId) × (part : ℕ) × Contains loans (loan_of block id part) × ((arena_of s id).life ≡ Ended)
IsRightlyLentIn size s loans (Read id word) = HasPart loans id (word / size)
IsRightlyLentIn size s loans (Write id word value) = HasPart loans id (word / size)
IsRightlyLentIn size s loans (SwapIf id word old new) = HasPart loans id (word / size)
IsRightlyLentIn size s loans (Add id word n) = HasPart loans id (word / size)
IsRightlyLentIn size s loans call = ⊤

abbrev pub IsRightlyLentFrom : ℕ → ℕ → State → List Loan → List Entry → Type 0
IsRightlyLentFrom size limit s loans [] = ⊤
IsRightlyLentFrom size limit s loans (e ∷ es) =
    IsRightlyLentIn size s loans e.call × IsRightlyLentFrom size limit (after limit s e) (loans_by loans e.call) es

abbrev pub IsRightlyLent : ℕ → ℕ → List Entry → Type 0
IsRightlyLent size limit es = IsRightlyLentFrom size limit [] [] es

-- the call lends one of the pool's blocks, as one of the parts that an arena can have
abbrev pub LendsWithin : Shape → Call → Type 0
LendsWithin z (Lend block id part) = (block < z.pages) × (part < z.reach)
LendsWithin z call = ⊤
