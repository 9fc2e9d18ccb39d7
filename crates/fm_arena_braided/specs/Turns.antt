-- What a memory is before whose calls somebody else has a turn.
use Rattle.std.specs.Prelude.{◌≡◌, ℕ, ◌+◌, ◌-◌, ◌^◌, ◌==◌, if◌then◌else◌, false, List, slice_index}
use Rattle.std.proofs.Common.{zero, suc}
use Rattle.fm_arena_braided.specs.declared.braided.Braided.{Braided}
use Rattle.fm_base.specs.{declared.arena_id.ArenaId.{ArenaId}, Calls.{Call, Read, Write, Reply, Fine, Found}}
use Rattle.fm_base.specs.{Learnt.{AfterAct, AfterPatch}, Outcomes.{Nature}, View.{View}}

-- the same, where other callers exist
abbrev pub beside : View → View
beside v = record v { alone = false }

abbrev pub nature_beside : Nature → Nature
nature_beside n = record n { alone = false }

-- what an act of the memory below teaches, where other callers exist
abbrev pub Acted : {X : Type 0} → (X → View) → X → X → (ArenaId → Call) → Reply → Type 0
Acted view old new call reply = AfterAct (beside (view old)) (beside (view new)) call reply

-- and a patch
abbrev pub Patched : {X : Type 0} → (X → View) → X → X → (word mask bits found : ℕ) → Type 0
Patched view old new word mask bits found = AfterPatch (beside (view old)) (beside (view new)) word mask bits found

-- how many numbered calls were made after one more: the last number stays
abbrev pub called_once_more : ℕ → ℕ
called_once_more calls = if calls == 2 ^ 64 - 1 then calls else calls + 1

-- the turn of the next number came, and the call was counted
pub record HadTurn {X : Type 0} (turns : X → ℕ → X → Type 0) (old : X) (calls : ℕ) (new : X) (next : ℕ) : Type 0 where
  pub turn : turns old calls new
  pub counted : next ≡ called_once_more calls

-- one numbered call: its turn came, and the memory below acted
pub record ActedInTurn {M T : Type 0} (view : M → View) (turns : T → ℕ → T → Type 0) (call : ArenaId → Call) (reply : Reply)
    (old new : Braided M T) : Type 0 where
  pub turn : HadTurn turns old.turn old.calls new.turn new.calls
  pub did : Acted view old.memory new.memory call reply

-- the k-th of these words was read, or put, by a call of its own, the first of them at this index
abbrev pub LoadedInTurn : {M T : Type 0} → (M → View) → (T → ℕ → T → Type 0) → ℕ → List ℕ → ℕ → Braided M T → Braided M T → Type 0
LoadedInTurn view turns first words k = ActedInTurn view turns (λ id. Read id (first + k)) (Found (slice_index words k))

abbrev pub StoredInTurn : {M T : Type 0} → (M → View) → (T → ℕ → T → Type 0) → ℕ → List ℕ → ℕ → Braided M T → Braided M T → Type 0
StoredInTurn view turns first words k = ActedInTurn view turns (λ id. Write id (first + k) (slice_index words k)) Fine

-- so many steps in a row go from old to new, the k-th of them as `step k` says
abbrev pub InTurns : {X : Type 0} → X → X → ℕ → (ℕ → X → X → Type 0) → Type 0
InTurns old new zero step = new ≡ old
InTurns old new (suc n) step = (between : _) × InTurns old between n step × step n between new
